-- The digits of a number: one that is below ten is one digit, another is the digits of its tenth and one more. How many steps the definition may take
-- makes no difference once they are enough. Assumes nothing.
use Rattle.std.specs.Prelude.{Bool, true, false, ◌≡◌, refl, List, [], ◌∷◌, ◌++◌, ℕ, zero, suc, ◌+◌, ◌/◌, ◌%◌, ◌^◌, ◌≤◌, ◌<◌, ltb, length}
use Rattle.std.proofs.Common.{sym, ap, ◌∙◌, pow-suc, arith, length-append, ltb-true, ltb-false, lt-ltb, le-ltb}
use Rattle.text.specs.laws.Readers.{pick_true, pick_false}
use Rattle.written.specs.Written.{digits_in, decimal}

-- a number below ten or not
pub either {ℓ} : {A : Type ℓ} (n : ℕ) → (n < 10 → A) → (10 ≤ n → A) → A
either {A = A} n f g = go (ltb n 10) refl
  where
    go : (b : Bool) → ltb n 10 ≡ b → A
    go true e = f (ltb-true n 10 e)
    go false e = g (ltb-false n 10 e)

pub in_one : (k n : ℕ) → n < 10 → digits_in (suc k) n ≡ (48 + n) ∷ []
unfolding digits_in
in_one k n h = pick_true _ _ (lt-ltb n 10 h)

pub in_more : (k n : ℕ) → 10 ≤ n → digits_in (suc k) n ≡ digits_in k (n / 10) ++ ((48 + n % 10) ∷ [])
unfolding digits_in
in_more k n h = pick_false _ _ (le-ltb n 10 h)

-- a number of at most k + 1 digits has a tenth of at most k
pub tenth : (k n : ℕ) → n < 10 ^ suc k → n / 10 < 10 ^ k
tenth k n h = omega (arith, pow-suc 10 k)

-- one step more makes no difference
enough : (k n : ℕ) → n < 10 ^ suc k → digits_in (suc k) n ≡ digits_in (suc (suc k)) n
enough zero n h = let s : n < 10 = h in in_one 0 n s ∙ sym (in_one 1 n s)
enough (suc k) n h =
    either n
    (λ s. in_one (suc k) n s ∙ sym (in_one (suc (suc k)) n s))
    (λ l. in_more (suc k) n l ∙ (ap (λ (w : List ℕ). w ++ ((48 + n % 10) ∷ [])) (enough k (n / 10) (tenth (suc k) n h)) ∙ sym (in_more (suc (suc k)) n l)))

pub decimal_one : (n : ℕ) → n < 10 → decimal n ≡ (48 + n) ∷ []
unfolding decimal
decimal_one n h = in_one 19 n h

pub decimal_more : (n : ℕ) → 10 ≤ n → n < 10 ^ 20 → decimal n ≡ decimal (n / 10) ++ ((48 + n % 10) ∷ [])
unfolding decimal
decimal_more n l h = in_more 19 n l ∙ ap (λ (w : List ℕ). w ++ ((48 + n % 10) ∷ [])) (enough 18 (n / 10) (tenth 19 n h))

-- a number below 10^(k+1) has at most k + 1 digits
digits_few : (m k n : ℕ) → n < 10 ^ suc k → length (digits_in m n) ≤ suc k
unfolding digits_in
digits_few zero k n h = omega arith
digits_few (suc m) zero n h = let s : n < 10 = h in omega (arith, ap length (in_one m n s))
digits_few (suc m) (suc k) n h =
    either n
    (λ s. omega (arith, ap length (in_one m n s)))
    (λ l. omega (arith, digits_few m k (n / 10) (tenth (suc k) n h), ap length (in_more m n l), length-append (digits_in m (n / 10)) ((48 + n % 10) ∷ [])))

pub decimal_few : (k n : ℕ) → n < 10 ^ suc k → length (decimal n) ≤ suc k
unfolding decimal
decimal_few k n h = digits_few 20 k n h
