-- `survey::lacking` meets its contract: the invariant is that the columns asked for before the line are not free.
-- Assumes nothing.
use mathlib.Core.Bool.{true≢false}
use mathlib.Core.Logic.{inl, inr}
use native.Mathlib.Omega.{arith}
use Rattle.survey.proofs.Stepping.{filled_start, filled_inside, filled_low, filled_small, filled_on, filled_over}
use Rattle.survey.proofs.lacking.Goals as goal
use Rattle.survey.proofs.lacking.Goals.{then-asked+else-found-line-eq0, else-asked}

pub overflow_add-object : goal.overflow_add-object
overflow_add-object c = omega (arith, c.requires.1)

pub loop-line-init : goal.loop-line-init
loop-line-init c = filled_start _ c.requires.1 _ c.first-start.ensures

pub overflow_sub-line : goal.overflow_sub-line
overflow_sub-line c = filled_low _ c.requires.1 _ c.first-start.ensures c.first-past.ensures c.loop-line.invariant

pub overflow_add-line : goal.overflow_add-line
overflow_add-line c = omega (arith, filled_small _ c.requires.1 _ c.first-start.ensures c.first-past.ensures c.loop-line.invariant c.loop-line-test.true)

pub offset_bounds-found-line : goal.offset_bounds-found-line
offset_bounds-found-line c = omega (arith, filled_small _ c.requires.1 _ c.first-start.ensures c.first-past.ensures c.loop-line.invariant c.loop-line-test.true)

pub bounds-found-line : goal.bounds-found-line
bounds-found-line c = filled_small _ c.requires.1 _ c.first-start.ensures c.first-past.ensures c.loop-line.invariant c.loop-line-test.true

pub returns-then-found-line-eq0 : goal.returns-then-found-line-eq0
returns-then-found-line-eq0 c = λ z. absurd (true≢false z)

pub overflow_add-line-in-loop-line : goal.overflow_add-line-in-loop-line
overflow_add-line-in-loop-line c = omega (arith, filled_inside _ c.requires.1 _ c.first-start.ensures c.first-past.ensures c.loop-line.invariant c.loop-line-test.true)

pub loop-line-smaller : goal.loop-line-smaller
loop-line-smaller c = omega (arith, c.loop-line-test.true)

pub loop-line-preserved : goal.loop-line-preserved
loop-line-preserved c = filled_on _ c.requires.1 _ c.first-start.ensures c.first-past.ensures c.loop-line.invariant c.asked.ensures
    (elim c.if-asked.branch [ then-asked+else-found-line-eq0 w ↦ inr w.if-found-line-eq0.false | else-asked w ↦ inl w.if-asked.false ])

pub returns : goal.returns
returns c = λ _. filled_over _ c.requires.1 _ c.first-start.ensures c.first-past.ensures c.loop-line.invariant (omega (arith, c.loop-line-test.false))
