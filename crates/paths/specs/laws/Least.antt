-- The laws of `least` and `any`.
use Rattle.std.specs.Prelude.{ℕ, zero, suc, ◌≤◌, ◌<◌, Bool, true, false, cond, not, ◌&&◌, ◌≡◌, refl, eqb}
use Rattle.std.proofs.Common.{zero-le, suc-le-suc, le_of_suc-le-suc, not-suc-le-zero, arith, true≢false, sym, ap, ◌∙◌, ltb-true, lt-ltb, eqb-true}
use Rattle.std.proofs.Math.Decide.{dec_lt}
use Rattle.paths.specs.Paths.{least, any}

-- the two halves of a test that holds
pub and_left : (a b : Bool) → (a && b) ≡ true → a ≡ true
and_left true b e = refl
and_left false b e = e

pub and_right : (a b : Bool) → (a && b) ≡ true → b ≡ true
and_right true b e = e
and_right false b e = absurd (true≢false (sym e))

pub and_both : (a b : Bool) → a ≡ true → b ≡ true → (a && b) ≡ true
and_both a b e f = rw (e, f)

-- a test that is not true is false
pub not_so : (b : Bool) → (b ≡ true → ⊥) → b ≡ false
not_so true h = absurd (h refl)
not_so false h = refl

pub least_le : (p : ℕ → Bool) (m : ℕ) → least p m ≤ m
unfolding least
least_le p zero = zero-le
least_le p (suc m) =
    elim (p zero) as (λ b. cond b zero (suc (least (λ i. p (suc i)) m)) ≤ suc m)
    [ true ↦ zero-le | false ↦ suc-le-suc (least_le (λ i. p (suc i)) m) ]

-- what it finds has p
pub least_has : (p : ℕ → Bool) (m : ℕ) → least p m < m → p (least p m) ≡ true
unfolding least
least_has p zero h = absurd (not-suc-le-zero h)
least_has p (suc m) h =
    (elim (p zero) as (λ b. let k = cond b zero (suc (least (λ i. p (suc i)) m)) in p zero ≡ b → k < suc m → p k ≡ true)
    [ true ↦ (λ e l. e) | false ↦ (λ e l. least_has (λ i. p (suc i)) m (le_of_suc-le-suc l)) ]) refl h

-- it is at most whatever has p
pub least_to : (p : ℕ → Bool) (m i : ℕ) → p i ≡ true → least p m ≤ i
unfolding least
least_to p zero i e = zero-le
least_to p (suc m) zero e = rw e zero-le
least_to p (suc m) (suc i) e =
    elim (p zero) as (λ b. cond b zero (suc (least (λ i. p (suc i)) m)) ≤ suc i)
    [ true ↦ zero-le | false ↦ suc-le-suc (least_to (λ i. p (suc i)) m i e) ]

-- nothing below k has p, so it is at least k
pub least_from : (p : ℕ → Bool) (m k : ℕ) → k ≤ m → ((i : ℕ) → i < k → p i ≡ false) → k ≤ least p m
least_from p m k h none = go (dec_lt (least p m) k)
  where
    go : Dec (least p m < k) → k ≤ least p m
    go (yes l) = absurd (true≢false (sym (least_has p m (omega arith)) ∙ none (least p m) l))
    go (no l) = omega arith

-- nothing has p
pub least_none : (p : ℕ → Bool) (m : ℕ) → ((i : ℕ) → i < m → p i ≡ false) → least p m ≡ m
least_none p m none = omega (arith, least_le p m, least_from p m m (omega arith) none)

pub any_of : (p : ℕ → Bool) (m i : ℕ) → i < m → p i ≡ true → any p m ≡ true
any_of p m i h e = lt-ltb (least p m) m (omega (arith, least_to p m i e))

pub any_has : (p : ℕ → Bool) (m : ℕ) → any p m ≡ true → (i : ℕ) × (i < m) × (p i ≡ true)
any_has p m e = let h : least p m < m = ltb-true (least p m) m e in (least p m, h, least_has p m h)

-- it depends on p below m only
pub least_same : (p q : ℕ → Bool) (m : ℕ) → ((i : ℕ) → i < m → p i ≡ q i) → least p m ≡ least q m
unfolding least
least_same p q zero h = refl
least_same p q (suc m) h =
    rw (h zero (suc-le-suc zero-le), least_same (λ i. p (suc i)) (λ i. q (suc i)) m (λ i l. h (suc i) (suc-le-suc l)))

-- every i below m has p i
abbrev pub all : (ℕ → Bool) → ℕ → Bool
all p m = eqb (least (λ i. not (p i)) m) m

pub all_has : (p : ℕ → Bool) (m : ℕ) → all p m ≡ true → (i : ℕ) → i < m → p i ≡ true
all_has p m e i h = go (p i) refl
  where
    go : (b : Bool) → p i ≡ b → p i ≡ true
    go true q = q
    go false q = absurd (omega (arith, eqb-true (least (λ i. not (p i)) m) m e, least_to (λ i. not (p i)) m i (ap not q)))
