-- `values::length_at` meets its contract. The loop keeps that the bytes counted, with those of what is left of the string, are its length. A character takes at least as many bytes of the text as it has in UTF-8, so the count never passes the position.
-- Assumes nothing.
use mathlib.Core.Path.{sym, ◌∙◌}
use native.Mathlib.Omega.{arith}
use Rattle.text.specs.laws.Peek.{found_in}
use Rattle.text.specs.laws.Escapes.{short_reads, short_few, long_reads, long_bytes, several_reads}
use Rattle.values.specs.laws.Ordinary.{reads_itself, width_one}
use Rattle.values.proofs.Compare.{length_none, length_start, length_own, length_several, length_close, length_stop, length_more, own_from, few_width, ahead, short_open, none_told}
use Rattle.values.proofs.length_at.Goals as goal

pub returns-then-byte-ne34 : goal.returns-then-byte-ne34
returns-then-byte-ne34 c = length_none _ _ (λ q. c.if-byte-ne34.true (c.byte.ensures ∙ q))

pub overflow_add-first : goal.overflow_add-first
overflow_add-first c = omega (arith, found_in _ _ c.byte.ensures c.if-byte-ne34.false tt)

pub overflow_sub-n : goal.overflow_sub-n
overflow_sub-n c = own_from _ _ c.past_plain-i.ensures

pub loop-n-init : goal.loop-n-init
loop-n-init c = (omega arith, length_own _ _ (length_start _ _ (sym c.byte.ensures ∙ c.if-byte-ne34.false)) c.past_plain-i.ensures)

pub overflow_add-n : goal.overflow_add-n
overflow_add-n c = omega (arith, (ahead _ (short_reads _ _ c.short.ensures c.if-short-gt0.true)).0, (ahead _ (short_reads _ _ c.short.ensures c.if-short-gt0.true)).1, c.loop-n.invariant.0)

pub overflow_add-i : goal.overflow_add-i
overflow_add-i c = omega (arith, (ahead _ (short_reads _ _ c.short.ensures c.if-short-gt0.true)).0, (ahead _ (short_reads _ _ c.short.ensures c.if-short-gt0.true)).1)

pub loop-n-smaller-then-short-gt0 : goal.loop-n-smaller-then-short-gt0
loop-n-smaller-then-short-gt0 c = omega (arith, (ahead _ (short_reads _ _ c.short.ensures c.if-short-gt0.true)).0, (ahead _ (short_reads _ _ c.short.ensures c.if-short-gt0.true)).1)

pub loop-n-preserved-then-short-gt0 : goal.loop-n-preserved-then-short-gt0
loop-n-preserved-then-short-gt0 c = (omega (arith, c.loop-n.invariant.0), length_more _ _ _ c.loop-n.invariant.1 (short_open _ _ c.short.ensures c.if-short-gt0.true) (short_reads _ _ c.short.ensures c.if-short-gt0.true) (few_width (short_few _ _ c.short.ensures)))

pub returns-then-b-eq34 : goal.returns-then-b-eq34
returns-then-b-eq34 c = length_close _ _ _ c.loop-n.invariant.1 (sym c.byte-b.ensures ∙ c.if-b-eq34.true)

pub overflow_add-n-then-ordinary : goal.overflow_add-n-then-ordinary
overflow_add-n-then-ordinary c = omega (arith, (ahead _ (reads_itself _ _ c.byte-b.ensures (c.ordinary.ensures.0 c.if-ordinary.true) c.if-b-eq34.false)).0, (ahead _ (reads_itself _ _ c.byte-b.ensures (c.ordinary.ensures.0 c.if-ordinary.true) c.if-b-eq34.false)).1, c.loop-n.invariant.0)

pub overflow_add-i-then-ordinary : goal.overflow_add-i-then-ordinary
overflow_add-i-then-ordinary c = omega (arith, (ahead _ (reads_itself _ _ c.byte-b.ensures (c.ordinary.ensures.0 c.if-ordinary.true) c.if-b-eq34.false)).0, (ahead _ (reads_itself _ _ c.byte-b.ensures (c.ordinary.ensures.0 c.if-ordinary.true) c.if-b-eq34.false)).1)

pub loop-n-smaller-then-ordinary : goal.loop-n-smaller-then-ordinary
loop-n-smaller-then-ordinary c = omega (arith, (ahead _ (reads_itself _ _ c.byte-b.ensures (c.ordinary.ensures.0 c.if-ordinary.true) c.if-b-eq34.false)).0, (ahead _ (reads_itself _ _ c.byte-b.ensures (c.ordinary.ensures.0 c.if-ordinary.true) c.if-b-eq34.false)).1)

pub loop-n-preserved-then-ordinary : goal.loop-n-preserved-then-ordinary
loop-n-preserved-then-ordinary c = (omega (arith, c.loop-n.invariant.0), length_more _ _ _ c.loop-n.invariant.1 (λ q. c.if-b-eq34.false (c.byte-b.ensures ∙ q)) (reads_itself _ _ c.byte-b.ensures (c.ordinary.ensures.0 c.if-ordinary.true) c.if-b-eq34.false) (width_one _ (c.ordinary.ensures.0 c.if-ordinary.true)))

pub overflow_add-n-then-e-gt0 : goal.overflow_add-n-then-e-gt0
overflow_add-n-then-e-gt0 c = omega (arith, (ahead _ (long_reads _ _ c.long-e.ensures c.if-e-gt0.true)).0, (ahead _ (long_reads _ _ c.long-e.ensures c.if-e-gt0.true)).1, c.loop-n.invariant.0, c.width-n.ensures.1)

pub overflow_cast-i : goal.overflow_cast-i
overflow_cast-i c = omega arith

pub overflow_add-i-then-e-gt0 : goal.overflow_add-i-then-e-gt0
overflow_add-i-then-e-gt0 c = omega (arith, (ahead _ (long_reads _ _ c.long-e.ensures c.if-e-gt0.true)).0, (ahead _ (long_reads _ _ c.long-e.ensures c.if-e-gt0.true)).1)

pub loop-n-smaller-then-e-gt0 : goal.loop-n-smaller-then-e-gt0
loop-n-smaller-then-e-gt0 c = omega (arith, (ahead _ (long_reads _ _ c.long-e.ensures c.if-e-gt0.true)).0, (ahead _ (long_reads _ _ c.long-e.ensures c.if-e-gt0.true)).1)

pub loop-n-preserved-then-e-gt0 : goal.loop-n-preserved-then-e-gt0
loop-n-preserved-then-e-gt0 c = (omega (arith, c.loop-n.invariant.0, c.width-n.ensures.1, (long_bytes _ _ c.long-e.ensures c.if-e-gt0.true).0), length_more _ _ _ c.loop-n.invariant.1 (λ q. c.if-b-eq34.false (c.byte-b.ensures ∙ q)) (long_reads _ _ c.long-e.ensures c.if-e-gt0.true) c.width-n.ensures.0)

pub returns-then-k-eq0 : goal.returns-then-k-eq0
returns-then-k-eq0 c = length_stop _ _ _ c.loop-n.invariant.1 (λ q. c.if-b-eq34.false (c.byte-b.ensures ∙ q)) (none_told _ _ c.short.ensures c.if-short-gt0.false c.long-e.ensures c.if-e-gt0.false c.several-k.ensures c.if-k-eq0.true c.byte-b.ensures (c.ordinary.ensures.1 c.if-ordinary.false))

pub overflow_add-n-in-loop-n : goal.overflow_add-n-in-loop-n
overflow_add-n-in-loop-n c = omega (arith, (ahead _ (several_reads _ _ c.several-k.ensures (omega (arith, c.if-k-eq0.false))).1).0, (ahead _ (several_reads _ _ c.several-k.ensures (omega (arith, c.if-k-eq0.false))).1).1, c.loop-n.invariant.0)

pub overflow_add-i-in-loop-n : goal.overflow_add-i-in-loop-n
overflow_add-i-in-loop-n c = omega (arith, (ahead _ (several_reads _ _ c.several-k.ensures (omega (arith, c.if-k-eq0.false))).1).0, (ahead _ (several_reads _ _ c.several-k.ensures (omega (arith, c.if-k-eq0.false))).1).1)

pub loop-n-smaller : goal.loop-n-smaller
loop-n-smaller c = omega (arith, (ahead _ (several_reads _ _ c.several-k.ensures (omega (arith, c.if-k-eq0.false))).1).0, (ahead _ (several_reads _ _ c.several-k.ensures (omega (arith, c.if-k-eq0.false))).1).1)

pub loop-n-preserved : goal.loop-n-preserved
loop-n-preserved c = (omega (arith, c.loop-n.invariant.0), length_several _ _ _ c.loop-n.invariant.1 (λ q. c.if-b-eq34.false (c.byte-b.ensures ∙ q)) c.several-k.ensures (omega (arith, c.if-k-eq0.false)))
