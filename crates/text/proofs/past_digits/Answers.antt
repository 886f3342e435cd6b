-- `text::past_digits` meets its contract: the loop keeps `run digit s at ≡ run digit s i`, and stops at the first byte that is no digit.
-- Assumes nothing.
use Rattle.text.specs.laws.Peek.{peek_at, run_step, run_stop, run_past, digit_end}
use Rattle.text.specs.Class.{digit}
use mathlib.Core.Path.{refl, ◌∙◌, ap, sym}
use Rattle.text.proofs.past_digits.Goals as goal

pub loop-i-init : goal.loop-i-init
loop-i-init c = refl

pub returns-then-not-digit : goal.returns-then-not-digit
returns-then-not-digit c = sym (c.loop-i.invariant ∙ run_stop digit digit_end _ _ (ap digit (sym (peek_at _ _ c.loop-i-test.true)) ∙ sym c.digit.ensures ∙ c.if-not-digit.true))

pub loop-i-preserved : goal.loop-i-preserved
loop-i-preserved c = c.loop-i.invariant ∙ run_step digit digit_end _ _ (ap digit (sym (peek_at _ _ c.loop-i-test.true)) ∙ sym c.digit.ensures ∙ c.if-not-digit.false)

pub returns : goal.returns
returns c = sym (c.loop-i.invariant ∙ run_past digit digit_end _ _ c.loop-i-test.false)
