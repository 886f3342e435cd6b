-- `values::natural` meets its contract. The loop's invariant: the number so far, continued by the digits that are left, is the whole number, both cut at the greatest of 64 bits. A number cut there stays there, since digits never make it less.
-- Assumes nothing.
use mathlib.Core.Path.{refl}
use native.Mathlib.Omega.{arith}
use Rattle.values.proofs.Digits.{natural_more, natural_end}
use Rattle.values.proofs.natural.Goals as goal

pub loop-i-init : goal.loop-i-init
loop-i-init c = (omega arith, refl)

pub bounds-s-i : goal.bounds-s-i
bounds-s-i c = omega (arith, c.requires)

pub grown-v-requires : goal.grown-v-requires
grown-v-requires c = c.worth.ensures.1

pub overflow_add-i : goal.overflow_add-i
overflow_add-i c = omega arith

pub loop-i-smaller : goal.loop-i-smaller
loop-i-smaller c = omega arith

pub loop-i-preserved : goal.loop-i-preserved
loop-i-preserved c = (omega (arith, c.grown-v.ensures), natural_more _ _ _ _ c.loop-i.invariant.1 c.loop-i-test.true c.requires c.worth.ensures.0 c.grown-v.ensures)

pub returns : goal.returns
returns c = natural_end _ _ _ _ c.loop-i.invariant.1 c.loop-i-test.false c.loop-i.invariant.0
