-- `text::past_singly` meets its contract: the loop keeps that the run of plain bytes from `at` ends where the one from i does, and stops where a byte is not plain.
-- Assumes nothing.
use Rattle.text.specs.laws.Plain.{own_step, own_stop}
use mathlib.Core.Path.{refl, ◌∙◌}
use native.Mathlib.Omega.{arith}
use borrow.Author.Rules.{rules}
use Rattle.text.proofs.past_singly.Goals as goal

pub loop-i-init : goal.loop-i-init
loop-i-init c = (refl, search rules)

pub returns-then-not-plain : goal.returns-then-not-plain
returns-then-not-plain c = (c.loop-i.invariant.0, (search rules, λ _. own_stop _ _ (omega arith) c.plain.ensures c.if-not-plain.true))

pub loop-i-preserved : goal.loop-i-preserved
loop-i-preserved c = (c.loop-i.invariant.0 ∙ own_step _ _ (omega arith) c.plain.ensures c.if-not-plain.false, search rules)

pub returns : goal.returns
returns c = (c.loop-i.invariant.0, (search rules, λ h. absurd (omega (arith, h))))
