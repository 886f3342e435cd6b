-- `prints::write_on` meets its contract. The loop keeps that the bytes written, with what is left of the string, are the text, whatever text that is: each character keeps it. At a quote nothing is left,
-- and where no character stands there is no text. Assumes nothing.
use mathlib.Core.Path.{sym, ◌∙◌}
use native.Mathlib.Omega.{arith}
use Rattle.text.specs.laws.Escapes.{short_reads, short_few, long_reads, long_few, several_reads, no_character}
use Rattle.prints.specs.laws.Walks.{ends_in, plain_here, long_pair, closes, stops, on_short, on_plain, on_long, on_several}
use Rattle.prints.proofs.write_on.Goals as goal

pub loop-text-init : goal.loop-text-init
loop-text-init c = record { within = c.requires.0; short = c.requires.1; keeps = λ _ w. w }

pub put-n-requires : goal.put-n-requires
put-n-requires c = (omega (arith, c.loop-text.invariant.within, c.loop-text.invariant.short), omega (arith, short_few _ _ c.short-a.ensures))

pub overflow_add-i : goal.overflow_add-i
overflow_add-i c = omega (arith, ends_in _ _ (short_reads _ _ c.short-a.ensures c.if-a-gt0.true))

pub loop-text-smaller-then-a-gt0 : goal.loop-text-smaller-then-a-gt0
loop-text-smaller-then-a-gt0 c = omega (arith, ends_in _ _ (short_reads _ _ c.short-a.ensures c.if-a-gt0.true))

pub loop-text-preserved-then-a-gt0 : goal.loop-text-preserved-then-a-gt0
loop-text-preserved-then-a-gt0 c = on_short c.loop-text.invariant c.short-a.ensures c.if-a-gt0.true c.put-n.ensures

pub returns-then-b-eq34 : goal.returns-then-b-eq34
returns-then-b-eq34 c = λ t w. closes (c.loop-text.invariant.keeps t w) (sym c.byte-b.ensures ∙ c.if-b-eq34.true)

pub put-n-requires-then-plain_at : goal.put-n-requires-then-plain_at
put-n-requires-then-plain_at c = (omega (arith, c.loop-text.invariant.within, c.loop-text.invariant.short), omega (arith, c.byte-b.ensures, (plain_here _ _ (sym c.plain_at.ensures ∙ c.if-plain_at.true)).ordinary.high))

pub overflow_add-i-then-plain_at : goal.overflow_add-i-then-plain_at
overflow_add-i-then-plain_at c = omega (arith, ends_in _ _ (plain_here _ _ (sym c.plain_at.ensures ∙ c.if-plain_at.true)).reads)

pub loop-text-smaller-then-plain_at : goal.loop-text-smaller-then-plain_at
loop-text-smaller-then-plain_at c = omega (arith, ends_in _ _ (plain_here _ _ (sym c.plain_at.ensures ∙ c.if-plain_at.true)).reads)

pub loop-text-preserved-then-plain_at : goal.loop-text-preserved-then-plain_at
loop-text-preserved-then-plain_at c = on_plain c.loop-text.invariant c.byte-b.ensures (sym c.plain_at.ensures ∙ c.if-plain_at.true) c.put-n-then-plain_at.ensures

pub put_code-n-requires : goal.put_code-n-requires
put_code-n-requires c = (omega (arith, c.loop-text.invariant.within, c.loop-text.invariant.short), long_few _ _ c.long-e.ensures)

pub overflow_add-i-then-e-eq6 : goal.overflow_add-i-then-e-eq6
overflow_add-i-then-e-eq6 c = omega (arith, c.if-e-eq6.true, ends_in _ _ (long_reads _ _ c.long-e.ensures (omega (arith, c.if-e-eq6.true))))

pub loop-text-smaller-then-e-eq6 : goal.loop-text-smaller-then-e-eq6
loop-text-smaller-then-e-eq6 c = omega (arith, c.if-e-eq6.true, ends_in _ _ (long_reads _ _ c.long-e.ensures (omega (arith, c.if-e-eq6.true))))

pub loop-text-preserved-then-e-eq6 : goal.loop-text-preserved-then-e-eq6
loop-text-preserved-then-e-eq6 c = on_long c.loop-text.invariant c.long-e.ensures (omega (arith, c.if-e-eq6.true)) c.if-e-eq6.true (omega arith) c.put_code-n.ensures

pub put_code-n-requires-then-e-gt0 : goal.put_code-n-requires-then-e-gt0
put_code-n-requires-then-e-gt0 c = (omega (arith, c.loop-text.invariant.within, c.loop-text.invariant.short), long_few _ _ c.long-e.ensures)

pub overflow_add-i-then-e-gt0 : goal.overflow_add-i-then-e-gt0
overflow_add-i-then-e-gt0 c = omega (arith, long_pair _ _ c.long-e.ensures c.if-e-gt0.true c.if-e-eq6.false, ends_in _ _ (long_reads _ _ c.long-e.ensures c.if-e-gt0.true))

pub loop-text-smaller-then-e-gt0 : goal.loop-text-smaller-then-e-gt0
loop-text-smaller-then-e-gt0 c = omega (arith, long_pair _ _ c.long-e.ensures c.if-e-gt0.true c.if-e-eq6.false, ends_in _ _ (long_reads _ _ c.long-e.ensures c.if-e-gt0.true))

pub loop-text-preserved-then-e-gt0 : goal.loop-text-preserved-then-e-gt0
loop-text-preserved-then-e-gt0 c = on_long c.loop-text.invariant c.long-e.ensures c.if-e-gt0.true (long_pair _ _ c.long-e.ensures c.if-e-gt0.true c.if-e-eq6.false) (omega arith) c.put_code-n-then-e-gt0.ensures

pub returns-then-k-eq0 : goal.returns-then-k-eq0
returns-then-k-eq0 c = λ t w. stops (c.loop-text.invariant.keeps t w) (λ q. c.if-b-eq34.false (c.byte-b.ensures ∙ q)) (no_character _ _ c.short-a.ensures (omega (arith, c.if-a-gt0.false)) c.long-e.ensures (omega (arith, c.if-e-gt0.false)) c.several-k.ensures c.if-k-eq0.true (sym c.plain_at.ensures ∙ c.if-plain_at.false)).1

pub overflow_add-i-in-loop-text : goal.overflow_add-i-in-loop-text
overflow_add-i-in-loop-text c = omega (arith, ends_in _ _ (several_reads _ _ c.several-k.ensures (omega (arith, c.if-k-eq0.false))).1)

pub put_row-n-requires : goal.put_row-n-requires
put_row-n-requires c = (omega (arith, c.loop-text.invariant.short), omega arith, ends_in _ _ (several_reads _ _ c.several-k.ensures (omega (arith, c.if-k-eq0.false))).1)

pub overflow_add-i-in-loop-text-2 : goal.overflow_add-i-in-loop-text-2
overflow_add-i-in-loop-text-2 c = omega (arith, ends_in _ _ (several_reads _ _ c.several-k.ensures (omega (arith, c.if-k-eq0.false))).1)

pub loop-text-smaller : goal.loop-text-smaller
loop-text-smaller c = omega (arith, ends_in _ _ (several_reads _ _ c.several-k.ensures (omega (arith, c.if-k-eq0.false))).1, c.if-k-eq0.false)

pub loop-text-preserved : goal.loop-text-preserved
loop-text-preserved c = on_several c.loop-text.invariant c.several-k.ensures (omega (arith, c.if-k-eq0.false)) c.put_row-n.ensures
