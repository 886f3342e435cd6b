-- `named::is_expected` meets its contract: past the first n nothing is said; among them the position there decides, when it is p. Assumes nothing.
use mathlib.Core.Path.{◌≡◌}
use Prim.Native.Nat.{ℕ}
use native.Mathlib.Omega.{arith}
use borrow.Author.Tests.{eqb-true}
use Rattle.named.proofs.is_expected.Goals as goal

pub returns-then-n-expected : goal.returns-then-n-expected
returns-then-n-expected c = λ e. let z : ◌≡◌ {A = ℕ} 0 1 = cc in absurd (omega arith)

pub returns : goal.returns
returns c = λ e. (c.if-n-expected.false, eqb-true _ _ e)
