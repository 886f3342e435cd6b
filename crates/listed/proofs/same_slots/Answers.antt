-- `listed::same_slots` meets its contract: the invariant is that the first k bytes of the two slots are the same. It holds of the bytes that were passed by blocks. Assumes nothing.
use native.Mathlib.Omega.{arith}
use borrow.Author.Count.{below_more}
use Rattle.listed.specs.laws.Slots.{slots_same, slots_differ}
use Rattle.listed.proofs.same_slots.Goals as goal

pub loop-k-init : goal.loop-k-init
loop-k-init c = (c.same_blocks-k.ensures.0, c.same_blocks-k.ensures.1.each)

pub overflow_add-i : goal.overflow_add-i
overflow_add-i c = omega arith

pub bounds-texts-i : goal.bounds-texts-i
bounds-texts-i c = omega arith

pub overflow_add-j : goal.overflow_add-j
overflow_add-j c = omega arith

pub bounds-texts-j : goal.bounds-texts-j
bounds-texts-j c = omega arith

pub returns-then-texts-i : goal.returns-then-texts-i
returns-then-texts-i c = slots_differ _ c.requires.0 _ _ _ c.requires.1 c.requires.2 c.requires.3 _ c.loop-k-test.true c.if-texts-i.true

pub loop-k-preserved : goal.loop-k-preserved
loop-k-preserved c = (omega arith, below_more _ _ c.loop-k.invariant.1 c.if-texts-i.false)

pub returns : goal.returns
returns c = slots_same _ c.requires.0 _ _ _ c.requires.1 c.requires.2 c.requires.3 (λ k h. c.loop-k.invariant.1 k (omega (arith, c.loop-k-test.false)))
