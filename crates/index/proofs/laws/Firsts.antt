-- The first place at which a test holds, by a loop: from number i on, of n elements in all. Assumes nothing.
use Rattle.std.specs.Prelude.{◌≡◌, Bool, true, false, ◌⊎◌}
use Rattle.std.proofs.Math.Path.{refl, ap}
use Rattle.std.proofs.Common.{◌∙◌, inr, arith}
use Rattle.std.proofs.Math.Logic.{inl}
use mathlib.Core.List.{List}
use Prim.Native.Nat.{ℕ, zero, suc, ◌+◌, ◌≤◌, ◌<◌}
use Rattle.text.specs.Reading.{pick}
use Rattle.manifest.specs.Rows.{first_or}
use Rattle.index.specs.Index.{listed}
use Rattle.index.proofs.laws.Entries.{from, from_past, from_here}

module _ {A : Type 0} (f : ℕ → A) (n d : ℕ) (p : A → Bool) where
  -- past the last, where it holds, and where it does not
  pub first_past : (i : ℕ) → n ≤ i → first_or d p (from f n i) i ≡ d
  unfolding first_or
  first_past i h = ap (λ (l : List A). first_or d p l i) (from_past f n i h)

  pub first_found : (i : ℕ) → i < n → p (f i) ≡ true → first_or d p (from f n i) i ≡ i
  unfolding first_or pick
  first_found i h e =
      ap (λ (l : List A). first_or d p l i) (from_here f n i h)
      ∙ ap (λ (b : Bool). pick b i (first_or d p (from f n (suc i)) (suc i))) e

  pub first_on : (i : ℕ) → i < n → p (f i) ≡ false → first_or d p (from f n i) i ≡ first_or d p (from f n (suc i)) (suc i)
  unfolding first_or pick
  first_on i h e =
      ap (λ (l : List A). first_or d p l i) (from_here f n i h)
      ∙ ap (λ (b : Bool). pick b i (first_or d p (from f n (suc i)) (suc i))) e

-- it is none, or one of the elements
module _ {A : Type 0} (f : ℕ → A) (d : ℕ) (p : A → Bool) where
  pub first_among : (i k : ℕ) → (first_or d p (listed f i k) i ≡ d) ⊎ (first_or d p (listed f i k) i < i + k)
  unfolding first_or listed pick
  first_among i zero = inl refl
  first_among i (suc k) = go (p (f i)) (first_among (suc i) k)
    where
      more : ℕ
      more = first_or d p (listed f (suc i) k) (suc i)

      go : (b : Bool) → (more ≡ d) ⊎ (more < suc i + k) → (pick b i more ≡ d) ⊎ (pick b i more < i + suc k)
      go true w = inr (omega arith)
      go false (inl e) = inl e
      go false (inr l) = inr (omega arith)
