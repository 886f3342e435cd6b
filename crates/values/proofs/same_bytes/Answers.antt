-- `values::same_bytes` meets its contract: the loop keeps that the bytes passed are the same, and that both texts have room for those left.
-- Assumes nothing.
use Rattle.values.specs.laws.Raws.{equal_none, equal_more}
use native.Mathlib.Omega.{arith}
use Rattle.values.proofs.same_bytes.Goals as goal

pub loop-n-init : goal.loop-n-init
loop-n-init c = (omega arith, equal_none _ _ _ _ c.requires.0 c.requires.1)

pub overflow_add-b : goal.overflow_add-b
overflow_add-b c = omega (arith, c.room-last.ensures)

pub bounds-s-i : goal.bounds-s-i
bounds-s-i c = omega (arith, c.room-last.ensures)

pub overflow_add-k : goal.overflow_add-k
overflow_add-k c = omega (arith, c.room-last.ensures)

pub bounds-t-k : goal.bounds-t-k
bounds-t-k c = omega (arith, c.room-last.ensures)

pub returns-then-b-t : goal.returns-then-b-t
returns-then-b-t c = c.loop-n.invariant.1

pub returns-then-not-plain : goal.returns-then-not-plain
returns-then-not-plain c = c.loop-n.invariant.1

pub overflow_add-n : goal.overflow_add-n
overflow_add-n c = omega arith

pub loop-n-smaller : goal.loop-n-smaller
loop-n-smaller c = omega arith

pub loop-n-preserved : goal.loop-n-preserved
loop-n-preserved c = (omega arith, equal_more _ _ _ _ c.loop-n.invariant.1 (omega (arith, c.room-last.ensures)) (omega (arith, c.room-last.ensures)) c.if-b-t.false)

pub returns : goal.returns
returns c = c.loop-n.invariant.1
