-- `text::plain_one` meets its contract: 1 is returned only where `plain` said so.
-- Assumes nothing.
use Prim.Native.Nat.{ℕ}
use mathlib.Core.Path.{◌≡◌, sym, ◌∙◌}
use native.Mathlib.Omega.{arith}
use borrow.Author.Rules.{rules}
use Rattle.text.proofs.plain_one.Goals as goal

pub returns-then-plain : goal.returns-then-plain
returns-then-plain c = (search rules, λ _. sym c.plain.ensures ∙ c.if-plain.true)

pub returns-else-plain : goal.returns-else-plain
returns-else-plain c = (search rules, λ (e : ◌≡◌ {A = ℕ} 0 1). absurd (omega arith))
