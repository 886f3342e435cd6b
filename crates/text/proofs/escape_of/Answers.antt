-- `text::escape_of` meets its contract: at each byte of an arm `escape_of` computes, and any other byte is in none of its ranges.
-- Assumes nothing.
use mathlib.Core.Path.{sym, ap}
use Rattle.text.specs.Reading.{pick}
use Rattle.text.specs.Strings.{escape_of}
use Rattle.text.proofs.Told.{no_escape}
use Rattle.text.proofs.escape_of.Goals as goal

pub returns-in-34 : goal.returns-in-34
unfolding escape_of pick
returns-in-34 c = sym (ap escape_of c.in-34.is)

pub returns-in-47 : goal.returns-in-47
unfolding escape_of pick
returns-in-47 c = sym (ap escape_of c.in-47.is)

pub returns-in-92 : goal.returns-in-92
unfolding escape_of pick
returns-in-92 c = sym (ap escape_of c.in-92.is)

pub returns-in-98 : goal.returns-in-98
unfolding escape_of pick
returns-in-98 c = sym (ap escape_of c.in-98.is)

pub returns-in-102 : goal.returns-in-102
unfolding escape_of pick
returns-in-102 c = sym (ap escape_of c.in-102.is)

pub returns-in-110 : goal.returns-in-110
unfolding escape_of pick
returns-in-110 c = sym (ap escape_of c.in-110.is)

pub returns-in-114 : goal.returns-in-114
unfolding escape_of pick
returns-in-114 c = sym (ap escape_of c.in-114.is)

pub returns-in-116 : goal.returns-in-116
unfolding escape_of pick
returns-in-116 c = sym (ap escape_of c.in-116.is)

pub returns-in_default : goal.returns-in_default
returns-in_default c = no_escape _ c.in_default.in_default-own.rest.0.0.0.0.0.0.0.1 c.in_default.in_default-own.rest.0.0.0.0.0.0.1 c.in_default.in_default-own.rest.0.0.0.0.0.1 c.in_default.in_default-own.rest.0.0.0.0.1 c.in_default.in_default-own.rest.0.0.0.1 c.in_default.in_default-own.rest.0.0.1 c.in_default.in_default-own.rest.0.1 c.in_default.in_default-own.rest.1
