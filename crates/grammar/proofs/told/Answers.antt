-- `grammar::told` meets its contract: each arm makes what was matched.
-- Assumes nothing.
use mathlib.Core.Path.{sym}
use Rattle.grammar.proofs.told.Goals as goal

pub returns-in-Done : goal.returns-in-Done
returns-in-Done c = sym c.in-Done.is

pub returns-in-Bad : goal.returns-in-Bad
returns-in-Bad c = sym c.in-Bad.is

pub returns-in-Deep : goal.returns-in-Deep
returns-in-Deep c = sym c.in-Deep.is
