-- A test that holds of some number below another. Assumes nothing.
use Rattle.std.specs.Prelude.{◌≡◌, refl, Bool, true, false, ◌||◌, ℕ, zero, suc, ◌<◌}
use Rattle.std.proofs.Common.{sym, ap, ◌∙◌, true≢false, not-suc-le-zero, arith}
use Rattle.std.proofs.Math.Bool.{or-true, or_assoc}
use Rattle.std.proofs.Math.Decide.{ℕ_discrete}

-- f of some number below n
unfoldable pub some : (ℕ → Bool) → ℕ → Bool
some f zero = false
some f (suc n) = some f n || f n

or_swap : (a x b : Bool) → (a || (x || b)) ≡ (x || (a || b))
or_swap true true b = refl
or_swap true false b = refl
or_swap false x b = refl

pub some_same : (f g : ℕ → Bool) (n : ℕ) → ((j : ℕ) → j < n → f j ≡ g j) → some f n ≡ some g n
unfolding some
some_same f g zero h = refl
some_same f g (suc n) h =
    let p : some f n ≡ some g n = some_same f g n (λ j l. h j (omega arith)) in
    let q : f n ≡ g n = h n (omega arith) in
    λ i. p i || q i

-- f says what g says, and at r also x
pub some_more : (f g : ℕ → Bool) (x : Bool) (n r : ℕ) → r < n → f r ≡ (x || g r) → ((j : ℕ) → j < n → (j ≡ r → ⊥) → f j ≡ g j) → some f n ≡ (x || some g n)
unfolding some
some_more f g x zero r l e h = absurd (not-suc-le-zero l)
some_more f g x (suc n) r l e h = go (ℕ_discrete r n) (λ m. some_more f g x n r m e (λ j k. h j (omega arith)))
  where
    go : Dec (r ≡ n) → (r < n → some f n ≡ (x || some g n)) → (some f n || f n) ≡ (x || (some g n || g n))
    go (yes q) ih =
        let p : some f n ≡ some g n = some_same f g n (λ j k. h j (omega arith) (λ y. omega arith)) in
        let w : f n ≡ (x || g n) = ap f (sym q) ∙ e ∙ ap (λ (j : ℕ). x || g j) q in
        (λ i. p i || w i) ∙ or_swap (some g n) x (g n)
    go (no q) ih =
        let p : some f n ≡ (x || some g n) = ih (omega arith) in
        let w : f n ≡ g n = h n (omega arith) (λ y. q (sym y)) in
        (λ i. p i || w i) ∙ or_assoc x (some g n) (g n)

pub some_none : (f : ℕ → Bool) (n : ℕ) → ((j : ℕ) → j < n → f j ≡ false) → some f n ≡ false
unfolding some
some_none f zero h = refl
some_none f (suc n) h =
    let p : some f n ≡ false = some_none f n (λ j l. h j (omega arith)) in
    let q : f n ≡ false = h n (omega arith) in
    λ i. p i || q i

pub some_hit : (f : ℕ → Bool) (n r : ℕ) → r < n → f r ≡ true → some f n ≡ true
unfolding some
some_hit f zero r l e = absurd (not-suc-le-zero l)
some_hit f (suc n) r l e = go (ℕ_discrete r n) (λ m. some_hit f n r m e)
  where
    go : Dec (r ≡ n) → (r < n → some f n ≡ true) → (some f n || f n) ≡ true
    go (yes q) ih = ap (λ (y : Bool). some f n || y) (ap f (sym q) ∙ e) ∙ or-true (some f n)
    go (no q) ih = ap (λ (y : Bool). y || f n) (ih (omega arith))

pub some_not : (f : ℕ → Bool) (n r : ℕ) → some f n ≡ false → r < n → f r ≡ false
some_not f n r e l = go (f r) refl
  where
    go : (b : Bool) → f r ≡ b → f r ≡ false
    go true q = absurd (true≢false (sym (some_hit f n r l q) ∙ e))
    go false q = q
