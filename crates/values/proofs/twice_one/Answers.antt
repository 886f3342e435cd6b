-- `values::twice_one` meets its contract: 1 is returned only where the bytes are the same and `plain` said so.
-- Assumes nothing.
use Prim.Native.Nat.{ℕ}
use mathlib.Core.Path.{◌≡◌, sym, ◌∙◌}
use native.Mathlib.Omega.{arith}
use borrow.Author.Rules.{rules}
use borrow.Author.Tests.{eq-eqb}
use Rattle.values.specs.laws.Alike.{twice}
use Rattle.values.proofs.twice_one.Goals as goal

pub returns-then-b-d : goal.returns-then-b-d
returns-then-b-d c = (search rules, λ (e : ◌≡◌ {A = ℕ} 0 1). absurd (omega arith))

pub returns-then-plain : goal.returns-then-plain
unfolding twice
returns-then-plain c = (search rules, λ _. rw (eq-eqb _ _ c.if-b-d.false) (sym c.plain.ensures ∙ c.if-plain.true))

pub returns-else-plain : goal.returns-else-plain
returns-else-plain c = (search rules, λ (e : ◌≡◌ {A = ℕ} 0 1). absurd (omega arith))
