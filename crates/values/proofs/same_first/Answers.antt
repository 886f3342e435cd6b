-- `values::same_first` meets its contract. The loop keeps that what was left at first is the same exactly where what is left now is: a byte that is a character by itself, in both strings, is one step of `same_rest`'s kind, and blocks of them are many.
-- Assumes nothing.
use mathlib.Core.Path.{refl, ◌∙◌}
use native.Mathlib.Omega.{arith}
use Rattle.values.proofs.Compare.{both_other, both_more, both_turns}
use Rattle.values.specs.laws.Ordinary.{reads_itself, inside}
use Rattle.values.proofs.same_first.Goals as goal

pub loop-left-init : goal.loop-left-init
loop-left-init c = (c.requires.0, c.requires.1, refl)

pub returns-then-not-both_itself : goal.returns-then-not-both_itself
returns-then-not-both_itself c = c.same_rest.ensures ∙ c.loop-left.invariant.2

pub returns-then-b-d : goal.returns-then-b-d
returns-then-b-d c = both_other _ _ _ c.loop-left.invariant.2 (λ e. (c.both_itself.ensures c.if-not-both_itself.false).0.1 (c.byte-b.ensures ∙ e)) (λ e. (c.both_itself.ensures c.if-not-both_itself.false).1.1 (c.byte-d.ensures ∙ e)) (reads_itself _ _ c.byte-b.ensures (c.both_itself.ensures c.if-not-both_itself.false).0.0 (c.both_itself.ensures c.if-not-both_itself.false).0.1) (reads_itself _ _ c.byte-d.ensures (c.both_itself.ensures c.if-not-both_itself.false).1.0 (c.both_itself.ensures c.if-not-both_itself.false).1.1) c.if-b-d.true

pub overflow_add-i : goal.overflow_add-i
overflow_add-i c = omega (arith, inside _ _ c.byte-b.ensures (c.both_itself.ensures c.if-not-both_itself.false).0.0)

pub overflow_add-k : goal.overflow_add-k
overflow_add-k c = omega (arith, inside _ _ c.byte-d.ensures (c.both_itself.ensures c.if-not-both_itself.false).1.0)

pub loop-left-smaller : goal.loop-left-smaller
loop-left-smaller c = omega (arith, c.loop-left-test.true)

pub loop-left-preserved : goal.loop-left-preserved
loop-left-preserved c = (omega (arith, inside _ _ c.byte-b.ensures (c.both_itself.ensures c.if-not-both_itself.false).0.0), omega (arith, inside _ _ c.byte-d.ensures (c.both_itself.ensures c.if-not-both_itself.false).1.0), both_more _ _ _ c.loop-left.invariant.2 (λ e. (c.both_itself.ensures c.if-not-both_itself.false).0.1 (c.byte-b.ensures ∙ e)) (λ e. (c.both_itself.ensures c.if-not-both_itself.false).1.1 (c.byte-d.ensures ∙ e)) (reads_itself _ _ c.byte-b.ensures (c.both_itself.ensures c.if-not-both_itself.false).0.0 (c.both_itself.ensures c.if-not-both_itself.false).0.1) (reads_itself _ _ c.byte-d.ensures (c.both_itself.ensures c.if-not-both_itself.false).1.0 (c.both_itself.ensures c.if-not-both_itself.false).1.1) c.if-b-d.false)

pub alike_blocks-n-requires : goal.alike_blocks-n-requires
alike_blocks-n-requires c = (c.loop-left.invariant.0, c.loop-left.invariant.1)

pub overflow_add-i-2 : goal.overflow_add-i-2
overflow_add-i-2 c = omega (arith, c.alike_blocks-n.ensures.left)

pub overflow_add-k-2 : goal.overflow_add-k-2
overflow_add-k-2 c = omega (arith, c.alike_blocks-n.ensures.right)

pub returns : goal.returns
returns c = c.same_rest-2.ensures ∙ both_turns _ _ _ _ c.loop-left.invariant.2 c.alike_blocks-n.ensures
