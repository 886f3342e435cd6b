-- `table::look` meets its contract: the invariant is that the object's lines that were passed don't have the name. No two of them have the same name. The constant has
-- the numbers of the names of the lines.
-- Assumes nothing.
use mathlib.Core.Path.{sym, ◌∙◌}
use native.Mathlib.Omega.{arith}
use borrow.Author.Tests.{eq-eqb, ne_eqb}
use Rattle.table.specs.laws.Lines.{number_at}
use Rattle.table.specs.laws.Looking.{no_object, look_start, look_inside, look_hit, look_on, look_over}
use Rattle.table.proofs.look.Goals as goal

pub returns-then-object-ge12 : goal.returns-then-object-ge12
returns-then-object-ge12 c = no_object _ _ c.if-object-ge12.true

pub overflow_add-object : goal.overflow_add-object
overflow_add-object c = omega arith

pub loop-line-init : goal.loop-line-init
loop-line-init c = look_start _ _ c.first-line.ensures

pub bounds-names-line : goal.bounds-names-line
bounds-names-line c = look_inside _ _ (omega arith) c.first-past.ensures c.loop-line.invariant c.loop-line-test.true

pub returns-then-names-line : goal.returns-then-names-line
returns-then-names-line c = look_hit _ _ (omega arith) c.first-past.ensures c.loop-line.invariant c.loop-line-test.true (sym (number_at _ _ (look_inside _ _ (omega arith) c.first-past.ensures c.loop-line.invariant c.loop-line-test.true) c.requires) ∙ eq-eqb _ _ c.if-names-line.true)

pub overflow_add-line : goal.overflow_add-line
overflow_add-line c = omega (arith, look_inside _ _ (omega arith) c.first-past.ensures c.loop-line.invariant c.loop-line-test.true)

pub loop-line-smaller : goal.loop-line-smaller
loop-line-smaller c = omega (arith, c.loop-line-test.true)

pub loop-line-preserved : goal.loop-line-preserved
loop-line-preserved c = look_on _ _ (omega arith) c.first-past.ensures c.loop-line.invariant (sym (number_at _ _ (look_inside _ _ (omega arith) c.first-past.ensures c.loop-line.invariant c.loop-line-test.true) c.requires) ∙ ne_eqb _ _ c.if-names-line.false)

pub returns : goal.returns
returns c = look_over _ _ (omega arith) c.first-past.ensures c.loop-line.invariant (λ l. omega (arith, c.loop-line-test.false))
