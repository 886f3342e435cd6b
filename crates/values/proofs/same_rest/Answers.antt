-- `values::same_rest` meets its contract. The loop keeps that what was left at first is the same exactly where what is left now is. Texts that begin with characters are the same where the characters are and what follows is, since UTF-8 tells each character from its bytes; bytes that `row` passes at both positions do not matter.
-- Assumes nothing.
use mathlib.Core.Path.{refl, sym, ◌∙◌}
use native.Mathlib.Omega.{arith}
use Rattle.values.proofs.Compare.{both_close, both_longer, both_other, both_more, both_stop_left, both_stop_right, coded_some, coded_ahead}
use Rattle.values.proofs.same_rest.Goals as goal

pub loop-p-init : goal.loop-p-init
loop-p-init c = refl

pub returns-then-b-eq34 : goal.returns-then-b-eq34
returns-then-b-eq34 c = both_close _ _ _ c.loop-p.invariant (sym c.byte-b.ensures ∙ c.if-b-eq34.true) c.byte-d.ensures

pub returns-then-d-eq34 : goal.returns-then-d-eq34
returns-then-d-eq34 c = both_longer _ _ _ c.loop-p.invariant (λ e. c.if-b-eq34.false (c.byte-b.ensures ∙ e)) (sym c.byte-d.ensures ∙ c.if-d-eq34.true)

pub row-n-requires : goal.row-n-requires
row-n-requires c = (c.byte-b.ensures, c.byte-d.ensures, c.if-b-eq34.false)

pub overflow_add-i : goal.overflow_add-i
overflow_add-i c = omega (arith, c.row-n.ensures.left)

pub overflow_add-k : goal.overflow_add-k
overflow_add-k c = omega (arith, c.row-n.ensures.right)

pub loop-p-smaller-then-n-gt0 : goal.loop-p-smaller-then-n-gt0
loop-p-smaller-then-n-gt0 c = omega (arith, c.row-n.ensures.left)

pub loop-p-preserved-then-n-gt0 : goal.loop-p-preserved-then-n-gt0
loop-p-preserved-then-n-gt0 c = c.row-n.ensures.on ∙ c.loop-p.invariant

pub code_at-e-requires : goal.code_at-e-requires
code_at-e-requires c = (c.byte-b.ensures, c.if-b-eq34.false)

pub returns-then-e-eq0 : goal.returns-then-e-eq0
returns-then-e-eq0 c = both_stop_left _ _ _ c.loop-p.invariant (λ e. c.if-b-eq34.false (c.byte-b.ensures ∙ e)) (c.code_at-e.ensures.none c.if-e-eq0.true)

pub code_at-f-requires : goal.code_at-f-requires
code_at-f-requires c = (c.byte-d.ensures, c.if-d-eq34.false)

pub returns-then-f-eq0 : goal.returns-then-f-eq0
returns-then-f-eq0 c = both_stop_right _ _ _ c.loop-p.invariant (λ e. c.if-d-eq34.false (c.byte-d.ensures ∙ e)) (c.code_at-f.ensures.none c.if-f-eq0.true)

pub returns-then-e-f : goal.returns-then-e-f
returns-then-e-f c = both_other _ _ _ c.loop-p.invariant (λ e. c.if-b-eq34.false (c.byte-b.ensures ∙ e)) (λ e. c.if-d-eq34.false (c.byte-d.ensures ∙ e)) (coded_some c.code_at-e.ensures c.if-e-eq0.false) (coded_some c.code_at-f.ensures c.if-f-eq0.false) c.if-e-f.true

pub overflow_cast-i : goal.overflow_cast-i
overflow_cast-i c = omega arith

pub overflow_add-i-in-loop-p : goal.overflow_add-i-in-loop-p
overflow_add-i-in-loop-p c = omega (arith, (coded_ahead _ _ c.code_at-e.ensures c.if-e-eq0.false).0)

pub overflow_cast-k : goal.overflow_cast-k
overflow_cast-k c = omega arith

pub overflow_add-k-in-loop-p : goal.overflow_add-k-in-loop-p
overflow_add-k-in-loop-p c = omega (arith, (coded_ahead _ _ c.code_at-f.ensures c.if-f-eq0.false).0)

pub loop-p-smaller : goal.loop-p-smaller
loop-p-smaller c = omega (arith, (coded_ahead _ _ c.code_at-e.ensures c.if-e-eq0.false).0, (coded_ahead _ _ c.code_at-e.ensures c.if-e-eq0.false).1)

pub loop-p-preserved : goal.loop-p-preserved
loop-p-preserved c = both_more _ _ _ c.loop-p.invariant (λ e. c.if-b-eq34.false (c.byte-b.ensures ∙ e)) (λ e. c.if-d-eq34.false (c.byte-d.ensures ∙ e)) (coded_some c.code_at-e.ensures c.if-e-eq0.false) (coded_some c.code_at-f.ensures c.if-f-eq0.false) c.if-e-f.false
