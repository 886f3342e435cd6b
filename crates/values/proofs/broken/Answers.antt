-- `values::broken` meets its contract. The loop's invariant: what is left has a point or an e exactly where the whole has.
-- Assumes nothing.
use mathlib.Core.Path.{refl, sym, ◌∙◌}
use native.Mathlib.Omega.{arith}
use Rattle.values.proofs.Digits.{broken_here, broken_more, broken_end}
use Rattle.values.proofs.broken.Goals as goal

pub loop-i-init : goal.loop-i-init
loop-i-init c = refl

pub bounds-s-i : goal.bounds-s-i
bounds-s-i c = omega (arith, c.requires)

pub returns-then-marks : goal.returns-then-marks
returns-then-marks c = broken_here _ _ _ c.loop-i.invariant c.loop-i-test.true c.requires (sym c.marks.ensures ∙ c.if-marks.true)

pub overflow_add-i : goal.overflow_add-i
overflow_add-i c = omega arith

pub loop-i-smaller : goal.loop-i-smaller
loop-i-smaller c = omega arith

pub loop-i-preserved : goal.loop-i-preserved
loop-i-preserved c = broken_more _ _ _ c.loop-i.invariant c.loop-i-test.true c.requires (sym c.marks.ensures ∙ c.if-marks.false)

pub returns : goal.returns
returns c = broken_end _ _ _ c.loop-i.invariant c.loop-i-test.false
