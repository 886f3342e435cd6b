-- A list converts by what it lists first of each x: two lists that agree in these convert alike, whatever their order. Assumes nothing.
use Rattle.std.specs.Prelude.{◌≡◌, refl, Bool, true, false, List, [], ◌∷◌, ◌⊎◌, ℕ, zero, suc, ◌<◌, length, ℤ}
use Rattle.std.proofs.Common.{sym, ap, ◌∙◌, inl, inr, ⊎_elim, arith}
use Rattle.std.proofs.Math.Decide.{dec_lt}
use Rattle.std.specs.Int.Signed.{le_z}
use Rattle.whole.specs.Pairs.{Pair, xs_of, ys_of, converted, place_for, nth, Carries}
use Rattle.whole.proofs.Theorems.{place_is, convert_at}
use Rattle.whole.proofs.laws.Order.{clash, le_refl, le_antisym}
use Rattle.whole.proofs.laws.Lists.{length_xs}

-- place i has an x that no earlier place has
pub record First (ps : List Pair) (i : ℕ) : Type 0 where
  pub listed : i < length ps
  pub none : (j : ℕ) → j < i → nth (xs_of ps) j ≡ nth (xs_of ps) i → ⊥

-- each first of ps is a first of qs
abbrev pub Firsts : List Pair → List Pair → Type 0
Firsts ps qs = (i : ℕ) → First ps i → (j : ℕ) × First qs j × (nth (xs_of qs) j ≡ nth (xs_of ps) i) × (nth (ys_of qs) j ≡ nth (ys_of ps) i)

same : (a b : ℤ) → (a ≡ b) ⊎ (a ≡ b → ⊥)
same a b = go (le_z a b) (le_z b a) refl refl
  where
    go : (p q : Bool) → le_z a b ≡ p → le_z b a ≡ q → (a ≡ b) ⊎ (a ≡ b → ⊥)
    go true true e f = inl (le_antisym a b e f)
    go true false e f = inr (λ z. clash (ap (λ (x : ℤ). le_z b x) z ∙ le_refl b) f)
    go false q e f = inr (λ z. clash (ap (λ (x : ℤ). le_z x b) z ∙ le_refl b) e)

-- the first place of a reading among the first m
scan : (xs : List ℤ) (v : ℤ) (m : ℕ) → ((k : ℕ) × (k < m) × (nth xs k ≡ v) × ((j : ℕ) → j < k → nth xs j ≡ v → ⊥)) ⊎ ((j : ℕ) → j < m → nth xs j ≡ v → ⊥)
scan xs v zero = inr (λ j l e. omega arith)
scan xs v (suc m) = ⊎_elim (λ f. inl (f.0, omega (arith, f.1), f.2, f.3)) (λ n. ⊎_elim (λ e. inl (m, omega arith, e, n)) (λ d. inr (λ j l e. go n d j l e (dec_lt j m))) (same (nth xs m) v)) (scan xs v m)
  where
    go : ((j : ℕ) → j < m → nth xs j ≡ v → ⊥) → (nth xs m ≡ v → ⊥) → (j : ℕ) → j < suc m → nth xs j ≡ v → Dec (j < m) → ⊥
    go n d j l e (yes h) = n j h e
    go n d j l e (no h) = let q : m ≡ j = omega arith in d (ap (nth xs) q ∙ e)

first_of : (ps : List Pair) (k : ℕ) → k < length ps → (i : ℕ) × First ps i × (nth (xs_of ps) i ≡ nth (xs_of ps) k)
first_of ps k h = ⊎_elim found (λ n. absurd (n k (omega arith) refl)) (scan (xs_of ps) (nth (xs_of ps) k) (suc k))
  where
    found : ((i : ℕ) × (i < suc k) × (nth (xs_of ps) i ≡ nth (xs_of ps) k) × ((j : ℕ) → j < i → nth (xs_of ps) j ≡ nth (xs_of ps) k → ⊥)) → (i : ℕ) × First ps i × (nth (xs_of ps) i ≡ nth (xs_of ps) k)
    found (i, l, e, n) = (i, record { listed = omega arith; none = λ j m q. n j m (q ∙ e) }, e)

module _ (t : ℤ) (ps qs : List Pair) (to : Firsts ps qs) (from : Firsts qs ps) where
  -- what carries t in the one carries it in the other
  moved : (i j : ℕ) → Carries t (xs_of ps) i → First qs j → nth (xs_of qs) j ≡ nth (xs_of ps) i → Carries t (xs_of qs) j
  moved i j c f e = record {
    listed = omega (arith, length_xs qs, f.listed);
    greatest = λ h k l u. let (m, n, q) = there k (omega (arith, length_xs qs)) in rw (← q, e) (c.greatest (rw e at h) m n (rw (← q) at u));
    smallest = λ h k l. let (m, n, q) = there k (omega (arith, length_xs qs)) in rw (← q, e) (c.smallest (rw e at h) m n);
    first = f.none;
  }
    where
      there : (k : ℕ) → k < length qs → (m : ℕ) × (m < length (xs_of ps)) × (nth (xs_of ps) m ≡ nth (xs_of qs) k)
      there k h =
          let (a, b, d) = first_of qs k h in
          let (m, n, x, y) = from a b in
          (m, omega (arith, length_xs ps, n.listed), x ∙ d)

  pub firsts_convert : converted t ps ≡ converted t qs
  firsts_convert = go (dec_lt 0 (length ps)) (dec_lt 0 (length qs))
    where
      none : (rs : List Pair) → (0 < length rs → ⊥) → rs ≡ []
      none [] h = refl
      none (r ∷ rs) h = absurd (h (omega arith))

      zero_first : (rs : List Pair) → 0 < length rs → First rs 0
      zero_first rs h = record { listed = h; none = λ j l e. omega arith }

      go : Dec (0 < length ps) → Dec (0 < length qs) → converted t ps ≡ converted t qs
      go (yes h) k =
          let i : ℕ = place_for t (xs_of ps) in
          let c : Carries t (xs_of ps) i = place_is t (xs_of ps) (omega (arith, length_xs ps)) in
          let (j, f, x, y) = to i (record { listed = omega (arith, length_xs ps, c.listed); none = c.first }) in
          convert_at t ps i c ∙ (rw (← x, ← y) refl) ∙ sym (convert_at t qs j (moved i j c f x))
      go (no h) (yes k) = let (j, f, x, y) = from 0 (zero_first qs k) in absurd (h (omega (arith, f.listed)))
      go (no h) (no k) = ap (converted t) (none ps h ∙ sym (none qs k))
