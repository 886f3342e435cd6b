-- `flag`: 1 or 0. Assumes nothing.
use Rattle.text.specs.Reading.{pick}
use Rattle.gather.specs.Gathered.{flag}
use mathlib.Core.Path.{sym, ap}
use Rattle.gather.proofs.flag.Goals as goal

pub returns-then-c : goal.returns-then-c
unfolding flag pick
returns-then-c c = sym (ap flag c.if-c.true)

pub returns-else-c : goal.returns-else-c
unfolding flag pick
returns-else-c c = sym (ap flag c.if-c.false)
