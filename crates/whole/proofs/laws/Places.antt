-- The place that carries a reading: how the search for it goes on, that it ends at the right place, and that there is one only.
-- Assumes nothing.
use Rattle.std.specs.Prelude.{◌≡◌, ℕ, zero, suc, ◌+◌, ◌<◌, ◌≤◌, Bool, true, false, cond, not, ◌&&◌, List, [], ◌∷◌, length, drop, ℤ, pos, FitsSigned, ◌≢◌, int_le}
use Rattle.std.proofs.Math.Path.{refl, ap}
use Rattle.std.proofs.Common.{sym, subst, ◌∙◌, ⊎_elim, arith, drop_of_length-le, drop-cons, leb-true, leb-false, le-leb}
use Rattle.std.specs.Int.{w64}
use Rattle.std.proofs.lemmas.Bool.{lt-leb}
use Rattle.whole.specs.Whole.{excess}
use Rattle.whole.specs.Pairs.{better, place_from, place_for, nth, Carries}
use Rattle.whole.proofs.laws.Ints.{split}
use Rattle.whole.proofs.laws.Order.{clash, le_refl, le_trans, le_total, le_antisym, lt_is, le_test, test_le, lt_test, test_lt}
use Rattle.whole.proofs.laws.Keys.{le_key}

-- ---- the search: its start, a place that is taken or left, its end
module _ (t : ℤ) where
  pub place_start : (xs : List ℤ) → place_from t 0 (nth xs 0) 1 (drop 1 xs) ≡ place_for t xs
  unfolding place_for place_from
  place_start [] = refl
  place_start (x ∷ xs) = refl

  pub place_end : (xs : List ℤ) (place next : ℕ) (b : ℤ) → length xs ≤ next → place_from t place b next (drop next xs) ≡ place
  unfolding place_from
  place_end xs place next b h = ap (place_from t place b next) (drop_of_length-le xs h)

  place_turn : (xs : List ℤ) (place next : ℕ) (b : ℤ) (q : Bool) → next < length xs → better t b (nth xs next) ≡ q
      → place_from t place b next (drop next xs) ≡ cond q (place_from t next (nth xs next) (suc next) (drop (suc next) xs)) (place_from t place b (suc next) (drop (suc next) xs))
  unfolding place_from
  place_turn xs place next b q h e =
      ap (place_from t place b next) (drop-cons xs next (pos 0) h)
      ∙ ap (λ (v : Bool). cond v (place_from t next (nth xs next) (suc next) (drop (suc next) xs)) (place_from t place b (suc next) (drop (suc next) xs))) e

  pub place_taken : (xs : List ℤ) (place next : ℕ) (b : ℤ) → next < length xs → better t b (nth xs next) ≡ true
      → place_from t place b next (drop next xs) ≡ place_from t next (nth xs next) (suc next) (drop (suc next) xs)
  place_taken xs place next b h e = place_turn xs place next b true h e

  pub place_left : (xs : List ℤ) (place next : ℕ) (b : ℤ) → next < length xs → better t b (nth xs next) ≡ false
      → place_from t place b next (drop next xs) ≡ place_from t place b (suc next) (drop (suc next) xs)
  place_left xs place next b h e = place_turn xs place next b false h e

-- ---- what `better` says, and what shows it; a < b is `le_z b a ≡ false`
module _ (t : ℤ) where
  better_is : (b x : ℤ) (q : Bool) → int_le b t ≡ q → better t b x ≡ cond q (not (int_le x b) && int_le x t) (not (int_le b x))
  unfolding better
  better_is b x q e = rw (lt_is b x, lt_is x b, e)

  under_yes : (b x : ℤ) → int_le b t ≡ true → better t b x ≡ true → (int_le x b ≡ false) × (int_le x t ≡ true)
  under_yes b x e h = go (int_le x b) (int_le x t) refl refl (sym (better_is b x true e) ∙ h)
    where
      go : (p q : Bool) → int_le x b ≡ p → int_le x t ≡ q → (not (int_le x b) && int_le x t) ≡ true → (int_le x b ≡ false) × (int_le x t ≡ true)
      go true q ep eq k = clash k (rw (ep) refl)
      go false true ep eq k = (ep, eq)
      go false false ep eq k = clash k (rw (ep, eq) refl)

  over_yes : (b x : ℤ) → int_le b t ≡ false → better t b x ≡ true → int_le b x ≡ false
  over_yes b x e h = go (int_le b x) refl (sym (better_is b x false e) ∙ h)
    where
      go : (p : Bool) → int_le b x ≡ p → not (int_le b x) ≡ true → int_le b x ≡ false
      go true ep k = clash k (ap not ep)
      go false ep k = ep

  under_no : (b x : ℤ) → int_le b t ≡ true → better t b x ≡ false → int_le x t ≡ true → int_le x b ≡ true
  under_no b x e h k = go (int_le x b) refl
    where
      go : (p : Bool) → int_le x b ≡ p → int_le x b ≡ true
      go true ep = ep
      go false ep = clash (better_is b x true e ∙ rw (ep, k) refl) h

  over_no : (b x : ℤ) → int_le b t ≡ false → better t b x ≡ false → int_le b x ≡ true
  over_no b x e h = go (int_le b x) refl
    where
      go : (p : Bool) → int_le b x ≡ p → int_le b x ≡ true
      go true ep = ep
      go false ep = clash (better_is b x false e ∙ ap not ep) h

-- ---- p carries t among the first n of the readings f
pub record Among (t : ℤ) (f : ℕ → ℤ) (p n : ℕ) : Type 0 where
  pub listed : p < n
  pub greatest : int_le (f p) t ≡ true → (j : ℕ) → j < n → int_le (f j) t ≡ true → int_le (f j) (f p) ≡ true
  pub smallest : int_le (f p) t ≡ false → (j : ℕ) → j < n → (int_le (f j) t ≡ false) × (int_le (f p) (f j) ≡ true)
  pub first : (j : ℕ) → j < p → f j ≢ f p

module _ (t : ℤ) (f : ℕ → ℤ) where
  -- what holds below n and at n holds below n + 1
  more : (P : ℕ → Type 0) (n : ℕ) → ((j : ℕ) → j < n → P j) → P n → (j : ℕ) → j < suc n → P j
  more P n below here j h = ⊎_elim (λ l. below j l) (λ l. let e : n ≡ j = omega arith in subst P e here) (split j n)

  among_one : Among t f 0 1
  among_one = record {
    listed = omega arith;
    greatest = λ h. more (λ (j : ℕ). int_le (f j) t ≡ true → int_le (f j) (f 0) ≡ true) 0 (λ j l. let z : ⊥ = omega arith in absurd z) (λ k. le_refl (f 0));
    smallest = λ h. more (λ (j : ℕ). (int_le (f j) t ≡ false) × (int_le (f 0) (f j) ≡ true)) 0 (λ j l. let z : ⊥ = omega arith in absurd z) (h, le_refl (f 0));
    first = λ j l e. let z : ⊥ = omega arith in z;
  }

  among_taken : (p n : ℕ) → Among t f p n → better t (f p) (f n) ≡ true → Among t f n (suc n)
  among_taken p n a e = go (int_le (f p) t) refl
    where
      go : (q : Bool) → int_le (f p) t ≡ q → Among t f n (suc n)
      go true u =
          let y = under_yes t (f p) (f n) u e in
          record {
            listed = omega arith;
            greatest = λ h. more (λ (j : ℕ). int_le (f j) t ≡ true → int_le (f j) (f n) ≡ true) n (λ j l k. le_trans (f j) (f p) (f n) (a.greatest u j l k) (le_total (f n) (f p) y.0)) (λ k. le_refl (f n));
            smallest = λ h. clash y.1 h;
            first = λ j l s. clash (a.greatest u j l (ap (λ (z : ℤ). int_le z t) s ∙ y.1)) (ap (λ (z : ℤ). int_le z (f p)) s ∙ y.0);
          }
      go false u =
          let y = over_yes t (f p) (f n) u e in
          record {
            listed = omega arith;
            greatest = λ h. more (λ (j : ℕ). int_le (f j) t ≡ true → int_le (f j) (f n) ≡ true) n (λ j l k. clash k (a.smallest u j l).0) (λ k. le_refl (f n));
            smallest = λ h. more (λ (j : ℕ). (int_le (f j) t ≡ false) × (int_le (f n) (f j) ≡ true)) n (λ j l. ((a.smallest u j l).0, le_trans (f n) (f p) (f j) (le_total (f p) (f n) y) (a.smallest u j l).1)) (h, le_refl (f n));
            first = λ j l s. clash (a.smallest u j l).1 (ap (int_le (f p)) s ∙ y);
          }

  among_left : (p n : ℕ) → Among t f p n → better t (f p) (f n) ≡ false → Among t f p (suc n)
  among_left p n a e = record {
    listed = omega (arith, a.listed);
    greatest = λ h. more (λ (j : ℕ). int_le (f j) t ≡ true → int_le (f j) (f p) ≡ true) n (a.greatest h) (λ k. under_no t (f p) (f n) h e k);
    smallest = λ h. more (λ (j : ℕ). (int_le (f j) t ≡ false) × (int_le (f p) (f j) ≡ true)) n (a.smallest h) (past h, over_no t (f p) (f n) h e);
    first = a.first;
  }
    where
      past : int_le (f p) t ≡ false → int_le (f n) t ≡ false
      past h = go (int_le (f n) t) refl
        where
          go : (q : Bool) → int_le (f n) t ≡ q → int_le (f n) t ≡ false
          go true k = clash (le_trans (f p) (f n) t (over_no t (f p) (f n) h e) k) h
          go false k = k

  -- two that carry t read the same
  same_reading : (p q n : ℕ) → Among t f p n → Among t f q n → f p ≡ f q
  same_reading p q n a b = go (int_le (f p) t) (int_le (f q) t) refl refl
    where
      go : (u v : Bool) → int_le (f p) t ≡ u → int_le (f q) t ≡ v → f p ≡ f q
      go true true h k = le_antisym (f p) (f q) (b.greatest k p a.listed h) (a.greatest h q b.listed k)
      go true false h k = clash h (b.smallest k p a.listed).0
      go false v h k = go_over v k
        where
          go_over : (v : Bool) → int_le (f q) t ≡ v → f p ≡ f q
          go_over true k = clash k (a.smallest h q b.listed).0
          go_over false k = le_antisym (f p) (f q) (a.smallest h q b.listed).1 (b.smallest k p a.listed).1

  among_only : (p q n : ℕ) → Among t f p n → Among t f q n → p ≡ q
  among_only p q n a b = ⊎_elim (λ l. absurd (b.first p l s)) (λ l. ⊎_elim (λ m. absurd (a.first q m (sym s))) (λ m. let e : p ≡ q = omega arith in e) (split q p)) (split p q)
    where
      s : f p ≡ f q
      s = same_reading p q n a b

module _ (t : ℤ) (xs : List ℤ) where
  -- the search ends at a place that carries t
  among_from : (m next place : ℕ) → next + m ≡ length xs → Among t (nth xs) place next
      → Among t (nth xs) (place_from t place (nth xs place) next (drop next xs)) (length xs)
  among_from zero next place e a =
      let n : next ≡ length xs = omega arith in
      rw (place_end t xs place next (nth xs place) (omega arith)) (subst (Among t (nth xs) place) n a)
  among_from (suc m) next place e a = go (better t (nth xs place) (nth xs next)) refl (among_from m (suc next) next (omega arith)) (among_from m (suc next) place (omega arith))
    where
      l : next < length xs
      l = omega arith

      go : (q : Bool) → better t (nth xs place) (nth xs next) ≡ q
          → (Among t (nth xs) next (suc next) → Among t (nth xs) (place_from t next (nth xs next) (suc next) (drop (suc next) xs)) (length xs))
          → (Among t (nth xs) place (suc next) → Among t (nth xs) (place_from t place (nth xs place) (suc next) (drop (suc next) xs)) (length xs))
          → Among t (nth xs) (place_from t place (nth xs place) next (drop next xs)) (length xs)
      go true h taken left = rw (place_taken t xs place next (nth xs place) l h) (taken (among_taken t (nth xs) place next a h))
      go false h taken left = rw (place_left t xs place next (nth xs place) l h) (left (among_left t (nth xs) place next a h))

  among_for : 0 < length xs → Among t (nth xs) (place_for t xs) (length xs)
  among_for h = rw (← place_start t xs) (go (length xs) refl)
    where
      go : (n : ℕ) → length xs ≡ n → Among t (nth xs) (place_from t 0 (nth xs 0) 1 (drop 1 xs)) (length xs)
      go zero e = let z : ⊥ = omega arith in absurd z
      go (suc m) e = among_from m 1 0 (omega arith) (among_one t (nth xs))

  among_carries : (i : ℕ) → Among t (nth xs) i (length xs) → Carries t xs i
  among_carries i a = record {
    listed = a.listed;
    greatest = λ h j l k. test_le (nth xs j) (nth xs i) (a.greatest (le_test (nth xs i) t h) j l (le_test (nth xs j) t k));
    smallest = λ h j l. (test_lt t (nth xs j) (a.smallest (lt_test t (nth xs i) h) j l).0, test_le (nth xs i) (nth xs j) (a.smallest (lt_test t (nth xs i) h) j l).1);
    first = a.first;
  }

  carries_among : (i : ℕ) → Carries t xs i → Among t (nth xs) i (length xs)
  carries_among i c = record {
    listed = c.listed;
    greatest = λ h j l k. le_test (nth xs j) (nth xs i) (c.greatest (test_le (nth xs i) t h) j l (test_le (nth xs j) t k));
    smallest = λ h j l. (lt_test t (nth xs j) (c.smallest (test_lt t (nth xs i) h) j l).0, le_test (nth xs i) (nth xs j) (c.smallest (test_lt t (nth xs i) h) j l).1);
    first = c.first;
  }

  pub place_carries : 0 < length xs → Carries t xs (place_for t xs)
  place_carries h = among_carries (place_for t xs) (among_for h)

  pub carries_place : (i : ℕ) → Carries t xs i → place_for t xs ≡ i
  carries_place i c = among_only t (nth xs) (place_for t xs) i (length xs) (among_for (omega (arith, c.listed))) (carries_among i c)

  -- the same said of keys, for a search over them
  module _ (fits : (j : ℕ) → j < length xs → FitsSigned w64 (nth xs j)) (ft : FitsSigned w64 t) where
    pub keys_carry : (i : ℕ) → i < length xs
        → (excess (nth xs i) ≤ excess t → (j : ℕ) → j < length xs → excess (nth xs j) ≤ excess t → excess (nth xs j) ≤ excess (nth xs i))
        → (excess t < excess (nth xs i) → (j : ℕ) → j < length xs → (excess t < excess (nth xs j)) × (excess (nth xs i) ≤ excess (nth xs j)))
        → ((j : ℕ) → j < i → excess (nth xs j) ≢ excess (nth xs i))
        → Carries t xs i
    keys_carry i l g s o = among_carries i (record {
      listed = l;
      greatest = λ h j k u. to_le (nth xs j) (nth xs i) (fits j k) (fits i l) (g (of_le (nth xs i) t (fits i l) ft h) j k (of_le (nth xs j) t (fits j k) ft u));
      smallest = λ h j k. let v = s (of_lt (nth xs i) t (fits i l) ft h) j k in (to_lt (nth xs j) t (fits j k) ft v.0, to_le (nth xs i) (nth xs j) (fits i l) (fits j k) v.1);
      first = λ j k e. o j k (ap excess e);
    })
      where
        to_le : (a b : ℤ) → FitsSigned w64 a → FitsSigned w64 b → excess a ≤ excess b → int_le a b ≡ true
        to_le a b fa fb h = le_key a b fa fb ∙ le-leb (excess a) (excess b) h

        of_le : (a b : ℤ) → FitsSigned w64 a → FitsSigned w64 b → int_le a b ≡ true → excess a ≤ excess b
        of_le a b fa fb h = leb-true (excess a) (excess b) (sym (le_key a b fa fb) ∙ h)

        to_lt : (a b : ℤ) → FitsSigned w64 a → FitsSigned w64 b → excess b < excess a → int_le a b ≡ false
        to_lt a b fa fb h = le_key a b fa fb ∙ lt-leb (excess a) (excess b) h

        of_lt : (a b : ℤ) → FitsSigned w64 a → FitsSigned w64 b → int_le a b ≡ false → excess b < excess a
        of_lt a b fa fb h = leb-false (excess a) (excess b) (sym (le_key a b fa fb) ∙ h)
