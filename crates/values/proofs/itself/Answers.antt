-- `values::itself` meets its contract: such a byte is ordinary, and no quote.
-- Assumes nothing.
use Prim.Native.Nat.{ℕ}
use mathlib.Core.Path.{◌≡◌, sym, ap, ◌∙◌}
use mathlib.Core.Bool.{true, false, not}
use native.Mathlib.Omega.{arith}
use borrow.Author.Tests.{eq-eqb}
use Rattle.values.specs.laws.Ordinary.{untold}
use Rattle.values.proofs.itself.Goals as goal

unlike : false ≡ true → ⊥
unlike f = let z : ◌≡◌ {A = ℕ} 0 1 = cc in omega arith

pub returns-then-ordinary : goal.returns-then-ordinary
returns-then-ordinary c = λ e. (c.ordinary.ensures.0 c.if-ordinary.true, λ q. unlike (sym (ap not (eq-eqb _ _ q)) ∙ e))

pub returns-else-ordinary : goal.returns-else-ordinary
returns-else-ordinary c = λ e. (untold _ e, λ _. unlike e)
