-- `starts_with`: the invariant is that the first i bytes of the text are those of the path. A byte that differs tells the two apart. Assumes nothing.
use native.Mathlib.Omega.{arith}
use borrow.Author.Count.{below_none, below_more}
use Rattle.gather.proofs.Texts.{begins, byte_differs}
use Rattle.gather.proofs.starts_with.Goals as goal

pub loop-i-init : goal.loop-i-init
loop-i-init c = (omega arith, below_none _)

pub bounds-text-i : goal.bounds-text-i
bounds-text-i c = omega (arith, c.loop-i.invariant.0)

pub returns-then-text-i : goal.returns-then-text-i
returns-then-text-i c = byte_differs _ _ _ c.loop-i-test.true c.if-text-i.true

pub loop-i-preserved : goal.loop-i-preserved
loop-i-preserved c = (omega arith, below_more _ _ c.loop-i.invariant.1 c.if-text-i.false)

pub returns : goal.returns
returns c = begins _ _ (omega (arith, c.requires.0, c.requires.1)) (λ k h. c.loop-i.invariant.1 k (omega (arith, c.loop-i-test.false)))
