-- `survey::files` meets its contract: the invariant is that the entries so far were read, none with a flaw, and their blocks were put into the index.
-- Assumes nothing.
use mathlib.Core.Path.{refl, sym, ◌∙◌}
use native.Mathlib.Omega.{arith}
use Rattle.text.specs.laws.Peek.{found_in}
use Rattle.survey.proofs.Blocks.{files_start, files_sized, files_on, files_end}
use Rattle.survey.proofs.files.Goals as goal

pub returns-then-byte-ne91 : goal.returns-then-byte-ne91
returns-then-byte-ne91 c = λ n. absurd (n refl)

pub overflow_add-at : goal.overflow_add-at
overflow_add-at c = omega (arith, found_in _ _ c.byte.ensures c.if-byte-ne91.false tt)

pub loop-n-init : goal.loop-n-init
loop-n-init c = files_start _ _ c.requires.1 c.blank-i.ensures

pub overflow_mul-n : goal.overflow_mul-n
overflow_mul-n c = omega (arith, c.loop-n-test.true)

pub overflow_add-n : goal.overflow_add-n
overflow_add-n c = omega (arith, c.loop-n-test.true)

pub entry-end-requires : goal.entry-end-requires
entry-end-requires c = (c.loop-n.invariant.off, c.loop-n.invariant.sized ∙ c.requires.1, omega (arith, c.loop-n-test.true))

pub returns-then-end-eq0 : goal.returns-then-end-eq0
returns-then-end-eq0 c = λ n. absurd (n refl)

pub overflow_add-n-in-loop-n : goal.overflow_add-n-in-loop-n
overflow_add-n-in-loop-n c = omega (arith, c.loop-n-test.true)

pub bounds-ix-5 : goal.bounds-ix-5
bounds-ix-5 c = omega (arith, files_sized _ _ c.requires.1 c.loop-n.invariant c.loop-n-test.true (c.entry-end.ensures c.if-end-eq0.false))

pub overflow_add-result : goal.overflow_add-result
overflow_add-result c = omega (arith, found_in _ _ c.byte-b.ensures c.if-b-eq93.true tt)

pub returns-then-b-eq93 : goal.returns-then-b-eq93
returns-then-b-eq93 c = λ _. files_end _ _ c.requires.1 c.loop-n.invariant c.loop-n-test.true (c.entry-end.ensures c.if-end-eq0.false) c.blank-e.ensures c.byte-b.ensures c.requires.0 (sym c.byte.ensures ∙ c.if-byte-ne91.false) c.if-b-eq93.true

pub returns-then-b-ne44 : goal.returns-then-b-ne44
returns-then-b-ne44 c = λ n. absurd (n refl)

pub overflow_add-e : goal.overflow_add-e
overflow_add-e c = omega (arith, found_in _ _ c.byte-b.ensures c.if-b-ne44.false tt)

pub loop-n-smaller : goal.loop-n-smaller
loop-n-smaller c = omega (arith, c.loop-n-test.true)

pub loop-n-preserved : goal.loop-n-preserved
loop-n-preserved c = files_on _ _ c.requires.1 c.loop-n.invariant c.loop-n-test.true (c.entry-end.ensures c.if-end-eq0.false) c.blank-e.ensures c.byte-b.ensures c.if-b-eq93.false c.if-b-ne44.false c.blank-i-in-loop-n.ensures

pub returns : goal.returns
returns c = λ n. absurd (n refl)
