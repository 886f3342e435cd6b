-- `values::both_itself` meets its contract: it asks `itself` of each.
-- Assumes nothing.
use Prim.Native.Nat.{ℕ}
use mathlib.Core.Path.{◌≡◌}
use mathlib.Core.Bool.{true, false}
use native.Mathlib.Omega.{arith}
use Rattle.values.specs.laws.Ordinary.{untold}
use Rattle.values.proofs.both_itself.Goals as goal

unlike : false ≡ true → ⊥
unlike f = let z : ◌≡◌ {A = ℕ} 0 1 = cc in omega arith

pub returns-then-itself : goal.returns-then-itself
returns-then-itself c = λ e. (c.itself.ensures c.if-itself.true, c.itself-then-itself.ensures e)

pub returns-else-itself : goal.returns-else-itself
returns-else-itself c = λ e. ((untold _ e, λ _. unlike e), (untold _ e, λ _. unlike e))
