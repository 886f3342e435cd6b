-- A distance is below the number of clocks. So where the number that stands for "no path" is at least the number of clocks, it stands exactly where there is no path of any length.
use Prim.Native.Nat.{ℕ, zero, suc, ◌+◌, ◌≤◌, ◌<◌, zero-le}
use Rattle.std.proofs.Common.{le_of_suc-le-suc, not-suc-le-zero, eq-or-lt_of_le, arith, inl, inr, lt-ltb, le-ltb, ltb-true}
use Rattle.std.proofs.Math.Decide.{dec_lt}
use Rattle.std.specs.Prelude.{Bool, true, false, ◌≡◌, refl, ◌⊎◌, List, [], ◌∷◌, ltb, length}
use Rattle.std.proofs.Math.Bool.{cond}
use Rattle.paths.specs.Paths.{Net, dist, next, Leads, path}
use Rattle.paths.proofs.laws.Reach.{reach_leads, dist_has, dist_le, dist_short, dist_in}
use Rattle.paths.proofs.laws.Best.{next_is, path_best}

-- how many i below m have p
count : (ℕ → Bool) → ℕ → ℕ
count p zero = zero
count p (suc m) = cond (p m) 1 0 + count p m

one_le : (a b : Bool) → (a ≡ true → b ≡ true) → cond a 1 0 ≤ cond b 1 0
one_le true b f = rw (f refl) (omega arith)
one_le false b f = zero-le

count_le : (p : ℕ → Bool) (m : ℕ) → count p m ≤ m
unfolding count
count_le p zero = zero-le
count_le p (suc m) = omega (arith, count_le p m, one_le (p m) true (λ _. refl))

module _ (p q : ℕ → Bool) (f : (j : ℕ) → p j ≡ true → q j ≡ true) where
  count_mono : (m : ℕ) → count p m ≤ count q m
  unfolding count
  count_mono zero = zero-le
  count_mono (suc m) = omega (arith, count_mono m, one_le (p m) (q m) (f m))

  count_more : (m i : ℕ) → i < m → p i ≡ false → q i ≡ true → count p m < count q m
  unfolding count
  count_more zero i h a b = absurd (not-suc-le-zero h)
  count_more (suc m) i h a b = go (eq-or-lt_of_le (le_of_suc-le-suc h)) (λ l. count_more m i l a b)
    where
      go : (i ≡ m) ⊎ (i < m) → (i < m → count p m < count q m) → cond (p m) 1 0 + count p m < cond (q m) 1 0 + count q m
      go (inl e) ih = rw (← e, a, b) (omega (arith, count_mono i))
      go (inr l) ih = omega (arith, ih l, one_le (p m) (q m) (f m))

module _ (g : Net) where
  abbrev below : ℕ → ℕ → Bool
  below k i = ltb (dist g i) k

  -- a clock at distance k counts below k + 1, and not below k
  one_more : (k c : ℕ) → c < g.size → dist g c ≡ k → count (below k) g.size < count (below (suc k)) g.size
  one_more k c h e =
      count_more (below k) (below (suc k)) (λ j l. lt-ltb (dist g j) (suc k) (omega (arith, ltb-true (dist g j) k l))) g.size c h
      (le-ltb (dist g c) k (omega arith)) (lt-ltb (dist g c) (suc k) (omega arith))

  -- so there are at least k + 1 clocks
  levels : (k c : ℕ) → c < g.size → dist g c ≡ k → k < g.far → suc k ≤ count (below (suc k)) g.size
  levels zero c h e f = omega (arith, one_more zero c h e)
  levels (suc k) c h e f =
      let n = next_is g k c e f in
      omega (arith, one_more (suc k) c h e, levels k (next g c) n.below n.near (omega arith))

  pub dist_small : (c : ℕ) → dist g c < g.far → dist g c < g.size
  dist_small c f = omega (arith, levels (dist g c) c (dist_in g c f) refl f, count_le (below (suc (dist g c))) g.size)

-- the same graph with another number for "no path"
abbrev with_far : Net → ℕ → Net
with_far g f = record { size = g.size; adj = g.adj; goal = g.goal; far = f }

to_far : (g : Net) (f c : ℕ) (p : List ℕ) → Leads g c p → Leads (with_far g f) c p
to_far g f c [] l = l
to_far g f c (d ∷ p) l = (l.0, l.1, to_far g f d p l.2)

of_far : (g : Net) (f c : ℕ) (p : List ℕ) → Leads (with_far g f) c p → Leads g c p
of_far g f c [] l = l
of_far g f c (d ∷ p) l = (l.0, l.1, of_far g f d p l.2)

-- a path of any length, and so a distance
pub leads_near : (g : Net) (c : ℕ) (p : List ℕ) → g.size ≤ g.far → Leads g c p → dist g c < g.far
leads_near g c p b l =
    let g' : Net = with_far g (suc (length p)) in
    let s : dist g' c ≤ length p = dist_short g' c p (to_far g (suc (length p)) c p l) in
    let t : dist g' c < g.size = dist_small g' c (omega arith) in
    let (q, m, z) = reach_leads g' (dist g' c) c (dist_has g' c (omega arith)) in
    omega (arith, z, dist_short g c q (of_far g (suc (length p)) c q m))

pub none_far : (g : Net) (c : ℕ) → ((p : List ℕ) → Leads g c p → ⊥) → dist g c ≡ g.far
none_far g c n = go (dec_lt (dist g c) g.far)
  where
    go : Dec (dist g c < g.far) → dist g c ≡ g.far
    go (yes f) = absurd (n (path g c) (path_best g c f).leads)
    go (no f) = omega (arith, dist_le g c)
