-- `text::literal` meets its contract: the loop keeps that all of w at the start is what is left of w, from its place k on, at i.
-- Assumes nothing.
use Prim.Native.Nat.{◌<◌}
use lib.ListN.{get_or}
use Rattle.text.proofs.Coded.{word_step, word_bad, word_done}
use borrow.Author.Rules.{rules}
use native.Mathlib.Omega.{arith}
use Rattle.text.specs.laws.Peek.{found_lt}
use Rattle.text.specs.Reading.{scan}
use mathlib.Core.Path.{refl, ◌∙◌, ap, sym}
use Rattle.text.proofs.literal.Goals as goal

pub loop-k-init : goal.loop-k-init
loop-k-init c = (search rules, refl)

pub returns-then-byte-widen : goal.returns-then-byte-widen
unfolding scan
returns-then-byte-widen c = ap scan (sym (c.loop-k.invariant.1 ∙ word_bad _ _ _ _ c.loop-k-test.true (λ q. c.if-byte-widen.true (c.byte.ensures ∙ q ∙ sym c.widen.ensures))))

pub overflow_add-i : goal.overflow_add-i
overflow_add-i c = let h : get_or c.args.w.now c.loop-k.k 0 < 256 = omega (arith, c.shared_slice_known-in-loop-k-1.given c.loop-k.k) in omega (arith, found_lt _ _ c.byte.ensures (c.if-byte-widen.false ∙ c.widen.ensures) h)

pub loop-k-preserved : goal.loop-k-preserved
loop-k-preserved c = (search rules, c.loop-k.invariant.1 ∙ word_step _ _ _ _ c.loop-k-test.true (sym c.byte.ensures ∙ c.if-byte-widen.false ∙ c.widen.ensures))

pub returns : goal.returns
unfolding scan
returns c = ap scan (sym (c.loop-k.invariant.1 ∙ word_done _ _ _ _ c.loop-k-test.false))
