-- A test of the elements of a list that is given by number: those from a number on decide. Assumes nothing.
use Rattle.std.specs.Prelude.{◌≡◌, Bool, true, false}
use Rattle.std.proofs.Math.Path.{ap}
use Rattle.std.proofs.Common.{◌∙◌}
use Prim.Native.Nat.{ℕ, suc, ◌+◌, ◌≤◌, ◌<◌}
use native.Mathlib.Omega.{arith}
use Rattle.manifest.specs.Rows.{any}
use Rattle.index.specs.Index.{listed}
use Rattle.index.proofs.laws.Entries.{from, any_past, any_found, any_on}
use Rattle.checks.specs.laws.Listed.{from_start}

unfoldable pub Open : {A : Type 0} → (A → Bool) → (ℕ → A) → ℕ → ℕ → Type 0
Open p f n i = any p (listed f 0 n) ≡ any p (from f n i)

module _ {A : Type 0} (p : A → Bool) (f : ℕ → A) (n : ℕ) where
  pub open_start : Open p f n 0
  unfolding Open
  open_start = ap (any p) (from_start f n)

  module _ (i : ℕ) (o : Open p f n i) where
    pub open_found : i < n → p (f i) ≡ true → any p (listed f 0 n) ≡ true
    unfolding Open
    open_found h e = o ∙ any_found f n p i h e

    pub open_on : i < n → p (f i) ≡ false → Open p f n (i + 1)
    unfolding Open
    open_on h e = let s : suc i ≡ i + 1 = omega arith in o ∙ (any_on f n p i h e ∙ ap (λ (k : ℕ). any p (from f n k)) s)

    pub open_past : n ≤ i → any p (listed f 0 n) ≡ false
    unfolding Open
    open_past h = o ∙ any_past f n p i h
