-- `values::begun_rest` meets its contract. The loop keeps that what is left of the string ends in the text, where it was the same up to `end`, as the string did from the start; `end` lies past the text once a character that `past_code` compares differs. A character, however it is told, is one step of that kind, and characters of several bytes that are the same in both are passed in a row.
-- Assumes nothing.
use mathlib.Core.Path.{refl, sym, ◌∙◌}
use native.Mathlib.Omega.{arith}
use Rattle.text.specs.laws.Escapes.{short_reads, short_few}
use Rattle.values.specs.laws.Ordinary.{inside}
use Rattle.values.specs.laws.Ascii.{ascii_reads}
use Rattle.values.proofs.Compare.{ahead, short_open, ends_close, ends_all, ends_more, ends_stop, ends_one_other, ends_one_more, ends_byte_other, ends_byte_more, ends_raws, coded_some, coded_ahead}
use Rattle.values.proofs.begun_rest.Goals as goal

pub loop-end-init : goal.loop-end-init
loop-end-init c = (omega (arith, c.requires), refl)

pub returns-then-byte-a : goal.returns-then-byte-a
returns-then-byte-a c = ends_one_other _ _ _ _ c.loop-end.invariant.1 (short_open _ _ c.short-a.ensures c.if-a-gt0.true) (short_reads _ _ c.short-a.ensures c.if-a-gt0.true) (short_few _ _ c.short-a.ensures) c.byte.ensures c.if-byte-a.true

pub overflow_add-end : goal.overflow_add-end
overflow_add-end c = omega (arith, c.loop-end-test.true)

pub overflow_add-i : goal.overflow_add-i
overflow_add-i c = omega (arith, (ahead _ (short_reads _ _ c.short-a.ensures c.if-a-gt0.true)).0, (ahead _ (short_reads _ _ c.short-a.ensures c.if-a-gt0.true)).1)

pub loop-end-smaller-then-a-gt0 : goal.loop-end-smaller-then-a-gt0
loop-end-smaller-then-a-gt0 c = omega (arith, (ahead _ (short_reads _ _ c.short-a.ensures c.if-a-gt0.true)).0, (ahead _ (short_reads _ _ c.short-a.ensures c.if-a-gt0.true)).1)

pub loop-end-preserved-then-a-gt0 : goal.loop-end-preserved-then-a-gt0
loop-end-preserved-then-a-gt0 c = (omega (arith, c.loop-end-test.true), ends_one_more _ _ _ _ c.loop-end.invariant.1 (short_open _ _ c.short-a.ensures c.if-a-gt0.true) (short_reads _ _ c.short-a.ensures c.if-a-gt0.true) (short_few _ _ c.short-a.ensures) c.byte.ensures c.if-byte-a.false)

pub returns-then-b-eq34 : goal.returns-then-b-eq34
returns-then-b-eq34 c = ends_close _ _ _ _ c.loop-end.invariant.1 (omega (arith, c.loop-end-test.true)) (sym c.byte-b.ensures ∙ c.if-b-eq34.true)

pub returns-then-byte-b : goal.returns-then-byte-b
returns-then-byte-b c = ends_byte_other _ _ _ _ c.loop-end.invariant.1 c.byte-b.ensures c.if-b-eq34.false (c.ordinary.ensures.0 c.if-ordinary.true) c.byte-then-ordinary.ensures c.if-byte-b.true

pub overflow_add-end-then-ordinary : goal.overflow_add-end-then-ordinary
overflow_add-end-then-ordinary c = omega (arith, c.loop-end-test.true)

pub overflow_add-i-then-ordinary : goal.overflow_add-i-then-ordinary
overflow_add-i-then-ordinary c = omega (arith, inside _ _ c.byte-b.ensures (c.ordinary.ensures.0 c.if-ordinary.true))

pub loop-end-smaller-then-ordinary : goal.loop-end-smaller-then-ordinary
loop-end-smaller-then-ordinary c = omega (arith, inside _ _ c.byte-b.ensures (c.ordinary.ensures.0 c.if-ordinary.true))

pub loop-end-preserved-then-ordinary : goal.loop-end-preserved-then-ordinary
loop-end-preserved-then-ordinary c = (omega (arith, c.loop-end-test.true), ends_byte_more _ _ _ _ c.loop-end.invariant.1 c.byte-b.ensures c.if-b-eq34.false (c.ordinary.ensures.0 c.if-ordinary.true) c.byte-then-ordinary.ensures c.if-byte-b.false)

pub returns-then-byte-v : goal.returns-then-byte-v
returns-then-byte-v c = ends_one_other _ _ _ _ c.loop-end.invariant.1 (λ q. c.if-b-eq34.false (c.byte-b.ensures ∙ q)) (ascii_reads _ _ c.ascii_escape-v.ensures c.if-v-gt0.true).reads (ascii_reads _ _ c.ascii_escape-v.ensures c.if-v-gt0.true).few c.byte-then-v-gt0.ensures c.if-byte-v.true

pub overflow_add-end-then-v-gt0 : goal.overflow_add-end-then-v-gt0
overflow_add-end-then-v-gt0 c = omega (arith, c.loop-end-test.true)

pub overflow_add-i-then-v-gt0 : goal.overflow_add-i-then-v-gt0
overflow_add-i-then-v-gt0 c = omega (arith, (ahead _ (ascii_reads _ _ c.ascii_escape-v.ensures c.if-v-gt0.true).reads).1)

pub loop-end-smaller-then-v-gt0 : goal.loop-end-smaller-then-v-gt0
loop-end-smaller-then-v-gt0 c = omega (arith, (ahead _ (ascii_reads _ _ c.ascii_escape-v.ensures c.if-v-gt0.true).reads).1)

pub loop-end-preserved-then-v-gt0 : goal.loop-end-preserved-then-v-gt0
loop-end-preserved-then-v-gt0 c = (omega (arith, c.loop-end-test.true), ends_one_more _ _ _ _ c.loop-end.invariant.1 (λ q. c.if-b-eq34.false (c.byte-b.ensures ∙ q)) (ascii_reads _ _ c.ascii_escape-v.ensures c.if-v-gt0.true).reads (ascii_reads _ _ c.ascii_escape-v.ensures c.if-v-gt0.true).few c.byte-then-v-gt0.ensures c.if-byte-v.false)

pub overflow_add-i-then-n-gt0 : goal.overflow_add-i-then-n-gt0
overflow_add-i-then-n-gt0 c = omega (arith, c.raw_alike-n.ensures.left)

pub overflow_add-end-then-n-gt0 : goal.overflow_add-end-then-n-gt0
overflow_add-end-then-n-gt0 c = omega (arith, c.raw_alike-n.ensures.right)

pub loop-end-smaller-then-n-gt0 : goal.loop-end-smaller-then-n-gt0
loop-end-smaller-then-n-gt0 c = omega (arith, c.raw_alike-n.ensures.left)

pub loop-end-preserved-then-n-gt0 : goal.loop-end-preserved-then-n-gt0
loop-end-preserved-then-n-gt0 c = (omega (arith, c.raw_alike-n.ensures.right), ends_raws _ _ _ _ c.loop-end.invariant.1 c.raw_alike-n.ensures)

pub wide_code-e-requires : goal.wide_code-e-requires
wide_code-e-requires c = (c.byte-b.ensures, sym c.short-a.ensures ∙ omega (arith, c.if-a-gt0.false))

pub returns-then-e-eq0 : goal.returns-then-e-eq0
returns-then-e-eq0 c = ends_stop _ _ _ _ c.loop-end.invariant.1 (λ q. c.if-b-eq34.false (c.byte-b.ensures ∙ q)) (c.wide_code-e.ensures.none c.if-e-eq0.true)

pub past_code-end-requires : goal.past_code-end-requires
past_code-end-requires c = omega (arith, c.loop-end-test.true)

pub overflow_cast-i : goal.overflow_cast-i
overflow_cast-i c = omega arith

pub overflow_add-i-in-loop-end : goal.overflow_add-i-in-loop-end
overflow_add-i-in-loop-end c = omega (arith, (coded_ahead _ _ c.wide_code-e.ensures c.if-e-eq0.false).0)

pub loop-end-smaller : goal.loop-end-smaller
loop-end-smaller c = omega (arith, (coded_ahead _ _ c.wide_code-e.ensures c.if-e-eq0.false).0, (coded_ahead _ _ c.wide_code-e.ensures c.if-e-eq0.false).1)

pub loop-end-preserved : goal.loop-end-preserved
loop-end-preserved c = (c.past_code-end.ensures.within, ends_more _ _ _ _ c.loop-end.invariant.1 (λ q. c.if-b-eq34.false (c.byte-b.ensures ∙ q)) (coded_some c.wide_code-e.ensures c.if-e-eq0.false) c.past_code-end.ensures)

pub returns : goal.returns
returns c = ends_all _ _ _ _ c.loop-end.invariant.1 (omega (arith, c.loop-end-test.false)) c.loop-end.invariant.0
