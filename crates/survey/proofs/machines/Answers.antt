-- `survey::machines` meets its contract: the invariant is that the items so far were read, none with a flaw, and their columns were put into the index.
-- Assumes nothing.
use mathlib.Core.Path.{refl, sym, ◌∙◌}
use native.Mathlib.Omega.{arith}
use Rattle.text.specs.laws.Peek.{found_in}
use Rattle.survey.proofs.Items.{machines_start, machines_room, machines_on, machines_end}
use Rattle.survey.proofs.machines.Goals as goal

pub returns-then-byte-ne91 : goal.returns-then-byte-ne91
returns-then-byte-ne91 c = λ n. absurd (n refl)

pub overflow_add-at : goal.overflow_add-at
overflow_add-at c = omega (arith, found_in _ _ c.byte.ensures c.if-byte-ne91.false tt)

pub loop-n-init : goal.loop-n-init
loop-n-init c = machines_start _ _ _ c.requires.1 c.requires.2 c.blank-i.ensures

pub row-item-requires : goal.row-item-requires
row-item-requires c = (omega arith, omega arith)

pub returns-then-item-eq0 : goal.returns-then-item-eq0
returns-then-item-eq0 c = λ n. absurd (n refl)

pub overflow_add-ix : goal.overflow_add-ix
overflow_add-ix c = omega (arith, machines_room _ _ _ c.requires.1 c.requires.2 c.loop-n.invariant c.loop-n-test.true, c.requires.1, c.requires.2, c.loop-n.invariant.sized)

pub overflow_mul-ix : goal.overflow_mul-ix
overflow_mul-ix c = omega (arith, machines_room _ _ _ c.requires.1 c.requires.2 c.loop-n.invariant c.loop-n-test.true, c.requires.1, c.requires.2, c.loop-n.invariant.sized)

pub overflow_add-ix-in-loop-n : goal.overflow_add-ix-in-loop-n
overflow_add-ix-in-loop-n c = omega (arith, machines_room _ _ _ c.requires.1 c.requires.2 c.loop-n.invariant c.loop-n-test.true, c.requires.1, c.requires.2, c.loop-n.invariant.sized)

pub offset_bounds-ix-base : goal.offset_bounds-ix-base
offset_bounds-ix-base c = omega (arith, machines_room _ _ _ c.requires.1 c.requires.2 c.loop-n.invariant c.loop-n-test.true, c.requires.1, c.requires.2, c.loop-n.invariant.sized)

pub bounds-ix-base : goal.bounds-ix-base
bounds-ix-base c = omega (arith, machines_room _ _ _ c.requires.1 c.requires.2 c.loop-n.invariant c.loop-n-test.true, c.requires.1, c.requires.2, c.loop-n.invariant.sized)

pub overflow_add-ix-in-loop-n-2 : goal.overflow_add-ix-in-loop-n-2
overflow_add-ix-in-loop-n-2 c = omega (arith, machines_room _ _ _ c.requires.1 c.requires.2 c.loop-n.invariant c.loop-n-test.true, c.requires.1, c.requires.2, c.loop-n.invariant.sized)

pub overflow_mul-ix-in-loop-n : goal.overflow_mul-ix-in-loop-n
overflow_mul-ix-in-loop-n c = omega (arith, machines_room _ _ _ c.requires.1 c.requires.2 c.loop-n.invariant c.loop-n-test.true, c.requires.1, c.requires.2, c.loop-n.invariant.sized)

pub overflow_add-ix-in-loop-n-3 : goal.overflow_add-ix-in-loop-n-3
overflow_add-ix-in-loop-n-3 c = omega (arith, machines_room _ _ _ c.requires.1 c.requires.2 c.loop-n.invariant c.loop-n-test.true, c.requires.1, c.requires.2, c.loop-n.invariant.sized)

pub overflow_add-ix-in-loop-n-4 : goal.overflow_add-ix-in-loop-n-4
overflow_add-ix-in-loop-n-4 c = omega (arith, machines_room _ _ _ c.requires.1 c.requires.2 c.loop-n.invariant c.loop-n-test.true, c.requires.1, c.requires.2, c.loop-n.invariant.sized)

pub offset_bounds-ix-base-in-loop-n : goal.offset_bounds-ix-base-in-loop-n
offset_bounds-ix-base-in-loop-n c = omega (arith, machines_room _ _ _ c.requires.1 c.requires.2 c.loop-n.invariant c.loop-n-test.true, c.requires.1, c.requires.2, c.loop-n.invariant.sized)

pub bounds-ix-base-in-loop-n : goal.bounds-ix-base-in-loop-n
bounds-ix-base-in-loop-n c = omega (arith, machines_room _ _ _ c.requires.1 c.requires.2 c.loop-n.invariant c.loop-n-test.true, c.requires.1, c.requires.2, c.loop-n.invariant.sized)

pub overflow_add-n : goal.overflow_add-n
overflow_add-n c = omega (arith, c.loop-n-test.true)

pub offset_bounds-ix-base-then-b-eq93 : goal.offset_bounds-ix-base-then-b-eq93
offset_bounds-ix-base-then-b-eq93 c = omega (arith, machines_room _ _ _ c.requires.1 c.requires.2 c.loop-n.invariant c.loop-n-test.true, c.requires.1, c.requires.2, c.loop-n.invariant.sized)

pub bounds-ix-base-then-b-eq93 : goal.bounds-ix-base-then-b-eq93
bounds-ix-base-then-b-eq93 c = omega (arith, machines_room _ _ _ c.requires.1 c.requires.2 c.loop-n.invariant c.loop-n-test.true, c.requires.1, c.requires.2, c.loop-n.invariant.sized)

pub overflow_add-result : goal.overflow_add-result
overflow_add-result c = omega (arith, found_in _ _ c.byte-b.ensures c.if-b-eq93.true tt)

pub returns-then-b-eq93 : goal.returns-then-b-eq93
returns-then-b-eq93 c = λ _. machines_end _ _ _ c.requires.1 c.requires.2 c.loop-n.invariant c.loop-n-test.true (c.row-item.ensures c.if-item-eq0.false) c.blank-e.ensures c.byte-b.ensures c.requires.0 (sym c.byte.ensures ∙ c.if-byte-ne91.false) c.if-b-eq93.true

pub returns-then-b-ne44 : goal.returns-then-b-ne44
returns-then-b-ne44 c = λ n. absurd (n refl)

pub overflow_add-e : goal.overflow_add-e
overflow_add-e c = omega (arith, found_in _ _ c.byte-b.ensures c.if-b-ne44.false tt)

pub loop-n-smaller : goal.loop-n-smaller
loop-n-smaller c = omega (arith, c.loop-n-test.true)

pub loop-n-preserved : goal.loop-n-preserved
loop-n-preserved c = machines_on _ _ _ c.requires.1 c.requires.2 c.loop-n.invariant c.loop-n-test.true (c.row-item.ensures c.if-item-eq0.false) c.blank-e.ensures c.byte-b.ensures c.if-b-eq93.false c.if-b-ne44.false c.blank-i-in-loop-n.ensures

pub returns : goal.returns
returns c = λ n. absurd (n refl)
