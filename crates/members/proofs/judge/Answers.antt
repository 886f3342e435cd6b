-- `members::judge` meets its contract: where a value is read, one walk over it tells 8, 9 or 0; where none is, the answer is 0.
-- Assumes nothing.
use mathlib.Core.Path.{sym, ◌∙◌}
use native.Mathlib.Omega.{arith}
use Rattle.members.proofs.Standing.{value_read, is_8, is_9, is_0, not_read}
use Rattle.values.specs.laws.Outs.{scan_bad, scan_deep}
use Rattle.members.proofs.judge.Goals as goal

pub walked-w-requires : goal.walked-w-requires
walked-w-requires c = (omega arith, value_read _ _ c.value.ensures c.in-Done.is)

pub returns-then-w : goal.returns-then-w
returns-then-w c = is_8 _ _ c.value.ensures c.in-Done.is c.walked-w.ensures c.if-w.true

pub returns-then-w-2 : goal.returns-then-w-2
returns-then-w-2 c = is_9 _ _ c.value.ensures c.in-Done.is c.walked-w.ensures c.if-w.false c.if-w-2.true

pub returns-else-w-2 : goal.returns-else-w-2
returns-else-w-2 c = is_0 _ _ c.value.ensures c.in-Done.is c.walked-w.ensures c.if-w.false c.if-w-2.false

pub returns-in-Bad : goal.returns-in-Bad
returns-in-Bad c = not_read _ _ (scan_bad _ (sym c.value.ensures ∙ c.in-Bad.is))

pub returns-in-Deep : goal.returns-in-Deep
returns-in-Deep c = not_read _ _ (scan_deep _ (sym c.value.ensures ∙ c.in-Deep.is))
