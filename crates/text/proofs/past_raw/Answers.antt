-- `text::past_raw` meets its contract: the loop keeps `past_raw s at ≡ past_raw s i`; a run of plain bytes, and a character of several bytes, are characters that it passes.
-- Assumes nothing.
use Rattle.text.proofs.SeveralBytes.{several_at_lem, raw_odd, raw_own}
use Rattle.text.specs.laws.Plain.{own_ge, own_step}
use Rattle.text.specs.laws.Raw.{raw_past}
use mathlib.Core.Path.{◌∙◌, refl, sym}
use Prim.Native.Nat.{◌+◌}
use native.Mathlib.Omega.{arith}
use Rattle.text.proofs.past_raw.Goals as goal

pub loop-i-init : goal.loop-i-init
loop-i-init c = refl

pub returns-then-not-plain : goal.returns-then-not-plain
returns-then-not-plain c = sym (c.loop-i.invariant ∙ raw_odd _ _ c.loop-i-test.true c.plain.ensures c.if-not-plain.true c.if-b-lt128.true)

pub overflow_add-i : goal.overflow_add-i
overflow_add-i c = omega (arith, c.loop-i-test.true)

pub loop-i-smaller-then-b-lt128 : goal.loop-i-smaller-then-b-lt128
loop-i-smaller-then-b-lt128 c = omega (arith, c.past_others-i.ensures, own_ge c.args.s.now (c.loop-i.i + 1), c.loop-i-test.true)

pub loop-i-preserved-then-b-lt128 : goal.loop-i-preserved-then-b-lt128
loop-i-preserved-then-b-lt128 c = c.loop-i.invariant ∙ raw_own _ _ (c.past_others-i.ensures ∙ sym (own_step _ _ c.loop-i-test.true c.plain.ensures c.if-not-plain.false))

pub wide-n-requires : goal.wide-n-requires
wide-n-requires c = several_at_lem _ _ c.loop-i-test.true c.if-b-lt128.false

pub returns-then-n-eq0 : goal.returns-then-n-eq0
returns-then-n-eq0 c = sym (c.loop-i.invariant ∙ c.wide-n.ensures.none c.if-n-eq0.true)

pub overflow_add-i-else-b-lt128 : goal.overflow_add-i-else-b-lt128
overflow_add-i-else-b-lt128 c = omega (arith, c.wide-n.ensures.within)

pub loop-i-smaller : goal.loop-i-smaller
loop-i-smaller c = omega (arith, c.loop-i-test.true, c.if-n-eq0.false)

pub loop-i-preserved : goal.loop-i-preserved
loop-i-preserved c = c.loop-i.invariant ∙ c.wide-n.ensures.some c.if-n-eq0.false

pub returns : goal.returns
returns c = sym (c.loop-i.invariant ∙ raw_past _ _ c.loop-i-test.false)
