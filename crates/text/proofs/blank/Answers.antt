-- `text::blank` meets its contract: the whitespace left at i is that at the start, which `skip` passes over byte by byte; so the loop keeps `skip s at ≡ skip s i`.
-- Assumes nothing.
use Rattle.text.specs.laws.Peek.{peek_at, skip_step, skip_stop, skip_past}
use Rattle.text.specs.Class.{whitespace}
use mathlib.Core.Path.{refl, ◌∙◌, ap, sym}
use Rattle.text.proofs.blank.Goals as goal

pub loop-i-init : goal.loop-i-init
loop-i-init c = refl

pub returns-then-not-white : goal.returns-then-not-white
returns-then-not-white c = sym (c.loop-i.invariant ∙ skip_stop _ _ (ap whitespace (sym (peek_at _ _ c.loop-i-test.true)) ∙ sym c.white.ensures ∙ c.if-not-white.true))

pub loop-i-preserved : goal.loop-i-preserved
loop-i-preserved c = c.loop-i.invariant ∙ skip_step _ _ (ap whitespace (sym (peek_at _ _ c.loop-i-test.true)) ∙ sym c.white.ensures ∙ c.if-not-white.false)

pub returns : goal.returns
returns c = sym (c.loop-i.invariant ∙ skip_past _ _ c.loop-i-test.false)
