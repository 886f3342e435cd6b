-- Rows of one width, one after the other, and lists by their elements. Assumes nothing.
use Rattle.std.specs.Prelude.{◌≡◌, refl, List, [], ◌∷◌, ◌++◌, map}
use Rattle.std.proofs.Math.Path.{sym, ap}
use Rattle.std.proofs.Common.{◌∙◌, mul-zero, get_or-append-add}
use Prim.Native.Nat.{ℕ, zero, suc, ◌+◌, ◌*◌, ◌≤◌, ◌<◌}
use native.Mathlib.Omega.{arith}
use Rattle.std.proofs.Math.Decide.{ℕ_discrete}
use Rattle.std.proofs.Math.Nat.{mul-suc, mul-le-mul_left}
use Rattle.std.proofs.Math.ListN.{length, get_or, length-append, get_or-append}
use Rattle.index.specs.Index.{rows, listed}

module _ (w : ℕ) (f : ℕ → List ℕ) (h : (i : ℕ) → length (f i) ≡ w) where
  pub rows_length : (n : ℕ) → length (rows f n) ≡ w * n
  unfolding rows
  rows_length zero = sym (mul-zero w)
  rows_length (suc n) = length-append (rows f n) (f n) ∙ ((λ t. rows_length n t + h n t) ∙ sym (mul-suc w n))

  pub rows_at : (n i j : ℕ) → i < n → j < w → get_or (rows f n) (w * i + j) 0 ≡ get_or (f i) j 0
  unfolding rows
  rows_at zero i j a b = absurd (omega arith)
  rows_at (suc n) i j a b = go (ℕ_discrete i n) (λ l. rows_at n i j l b)
    where
      go : Dec (i ≡ n) → (i < n → get_or (rows f n) (w * i + j) 0 ≡ get_or (f i) j 0) → get_or (rows f n ++ f n) (w * i + j) 0 ≡ get_or (f i) j 0
      go (yes e) ih =
          (λ t. get_or (rows f n ++ f n) (w * e t + j) 0)
          ∙ ((λ t. get_or (rows f n ++ f n) (sym (rows_length n) t + j) 0) ∙ (get_or-append-add (rows f n) (f n) j 0 ∙ ap (λ (k : ℕ). get_or (f k) j 0) (sym e)))
      go (no q) ih =
          let l : i < n = omega arith in
          let m : w * suc i ≤ w * n = mul-le-mul_left w l in
          let p : w * suc i ≡ w * i + w = mul-suc w i in
          let r : length (rows f n) ≡ w * n = rows_length n in
          get_or-append (rows f n) (f n) 0 (w * i + j) (omega arith) ∙ ih l

-- a list by its elements
pub listed_map : {A : Type 0} (f g : ℕ → A) (l : List ℕ) (i : ℕ) → ((k : ℕ) → k < length l → f (i + k) ≡ g (get_or l k 0)) → listed f i (length l) ≡ map g l
unfolding listed
listed_map f g [] i h = refl
listed_map f g (p ∷ l) i h =
    let a : i ≡ i + 0 = omega arith in
    let x : f i ≡ g p = ap f a ∙ h 0 (omega arith) in
    let y : listed f (suc i) (length l) ≡ map g l =
    listed_map f g l (suc i) (λ k b. let c : suc i + k ≡ i + suc k = omega arith in ap f c ∙ h (suc k) (omega arith)) in
    λ t. x t ∷ y t
