-- `members::lacking` meets its contract: the invariant is that the object's lines that were passed lack nothing; no other line is about the object.
-- Assumes nothing.
use mathlib.Core.Logic.{inl, inr}
use native.Mathlib.Omega.{arith}
use Rattle.members.specs.laws.Lacking.{full_start, full_inside, full_hit, full_on, full_over}
use Rattle.members.proofs.lacking.Goals as goal
use Rattle.members.proofs.lacking.Goals.{then-asked+else-seen-line-ne1, else-asked}

pub overflow_add-object : goal.overflow_add-object
overflow_add-object c = omega (arith, c.requires)

pub loop-line-init : goal.loop-line-init
loop-line-init c = full_start _ _ c.first-line.ensures

pub bounds-seen-line : goal.bounds-seen-line
bounds-seen-line c = full_inside _ _ c.requires c.first-past.ensures c.loop-line.invariant c.loop-line-test.true

pub returns-then-seen-line-ne1 : goal.returns-then-seen-line-ne1
returns-then-seen-line-ne1 c = full_hit _ _ c.requires c.first-past.ensures c.loop-line.invariant c.loop-line-test.true c.asked.ensures c.if-asked.true c.if-seen-line-ne1.true

pub overflow_add-line : goal.overflow_add-line
overflow_add-line c = omega (arith, full_inside _ _ c.requires c.first-past.ensures c.loop-line.invariant c.loop-line-test.true)

pub loop-line-smaller : goal.loop-line-smaller
loop-line-smaller c = omega (arith, c.loop-line-test.true)

pub loop-line-preserved : goal.loop-line-preserved
loop-line-preserved c = full_on _ _ c.requires c.first-past.ensures c.loop-line.invariant c.asked.ensures
    (elim c.if-asked.branch [ then-asked+else-seen-line-ne1 w ↦ inr w.if-seen-line-ne1.false | else-asked w ↦ inl w.if-asked.false ])

pub returns : goal.returns
returns c = full_over _ _ c.requires c.first-past.ensures c.loop-line.invariant (λ l. omega (arith, c.loop-line-test.false))
