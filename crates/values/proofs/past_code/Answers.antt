-- `values::past_code` meets its contract: where the bytes do not stand, or stand past the end, whatever follows ends past the text.
-- Assumes nothing.
use native.Mathlib.Omega.{arith}
use Rattle.values.proofs.Compare.{went_on, went_not, went_over}
use Rattle.values.proofs.past_code.Goals as goal

pub starts-requires : goal.starts-requires
starts-requires c = omega (arith, c.requires)

pub returns-then-not-starts : goal.returns-then-not-starts
returns-then-not-starts c = went_not _ _ _ c.starts.ensures c.if-not-starts.true

pub overflow_add-end : goal.overflow_add-end
overflow_add-end c = omega (arith, c.requires, c.width.ensures.1)

pub returns-then-t-end : goal.returns-then-t-end
returns-then-t-end c = went_over _ _ _ c.starts.ensures c.if-not-starts.false c.width.ensures.0 c.if-t-end.true

pub returns-else-t-end : goal.returns-else-t-end
returns-else-t-end c = went_on _ _ _ c.starts.ensures c.if-not-starts.false c.width.ensures.0 (omega (arith, c.if-t-end.false))
