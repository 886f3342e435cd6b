-- Two graphs that have the same pairs between their clocks have the same distances and next clocks. Assumes nothing.
use Prim.Native.Nat.{ℕ, zero, suc, ◌≤◌, ◌<◌}
use Rattle.std.proofs.Common.{arith, ltb-true, le-ltb, ◌∙◌}
use Rattle.std.proofs.Math.Decide.{dec_lt}
use Rattle.paths.proofs.laws.Reach.{outside}
use Rattle.std.specs.Prelude.{Bool, ◌&&◌, ◌≡◌, List, [], ◌∷◌}
use Rattle.std.proofs.Math.Bool.{true, false, cond}
use Rattle.std.proofs.Math.Path.{refl, sym, ap}
use Rattle.std.proofs.Math.Dec.{ltb}
use Rattle.numbers.specs.Numbers.{clocks}
use Rattle.paths.specs.Paths.{Net, Leads, least, any, reach, dist, nearer, next}
use Rattle.paths.specs.Matrix.{distances, nexts}
use Rattle.paths.specs.laws.Least.{least_same}
use Rattle.paths.proofs.laws.Bound.{none_far}
use Rattle.paths.proofs.laws.Best.{next_far}
use Rattle.paths.proofs.laws.Table.{tabulate_same}

pub record Alike (g h : Net) : Type 0 where
  pub size : g.size ≡ h.size
  pub goal : g.goal ≡ h.goal
  pub far : g.far ≡ h.far
  pub pairs : (c d : ℕ) → c < g.size → d < g.size → g.adj c d ≡ h.adj c d

module _ {g h : Net} (a : Alike g h) where
  under : (c : ℕ) (p q : Bool) → (c < g.size → p ≡ q) → (ltb c g.size && p) ≡ (ltb c g.size && q)
  under c p q e = go (ltb c g.size) refl
    where
      go : (b : Bool) → ltb c g.size ≡ b → (b && p) ≡ (b && q)
      go true s = e (ltb-true c g.size s)
      go false s = refl

  reach_same : (k c : ℕ) → reach g k c ≡ reach h k c
  unfolding reach
  reach_same zero c = rw (a.size, a.goal) refl
  reach_same (suc k) c =
      under c (any (λ d. g.adj c d && reach g k d) g.size) (any (λ d. h.adj c d && reach h k d) g.size)
      (λ l. ap (λ (x : ℕ). ltb x g.size) (least_same (λ d. g.adj c d && reach g k d) (λ d. h.adj c d && reach h k d) g.size (λ d m. rw (a.pairs c d l m, reach_same k d) refl)))
      ∙ ap (λ (s : ℕ). ltb c s && any (λ d. h.adj c d && reach h k d) s) a.size

  pub dist_same : (c : ℕ) → dist g c ≡ dist h c
  unfolding dist
  dist_same c = least_same (λ k. reach g k c) (λ k. reach h k c) g.far (λ k _. reach_same k c) ∙ ap (least (λ k. reach h k c)) a.far

  near_same : (c : ℕ) → c < g.size → least (nearer g c) g.size ≡ least (nearer h c) h.size
  near_same c l = least_same (nearer g c) (nearer h c) g.size (λ d m. rw (a.pairs c d l m, dist_same d, dist_same c) refl) ∙ ap (least (nearer h c)) a.size

  pub next_same : (c : ℕ) → next g c ≡ next h c
  unfolding next
  next_same c =
      go (dec_lt c g.size) ∙ ap (λ (k : ℕ). cond (ltb 0 (dist g c) && ltb (dist g c) k) (least (nearer h c) h.size) c) a.far
      ∙ ap (λ (k : ℕ). cond (ltb 0 k && ltb k h.far) (least (nearer h c) h.size) c) (dist_same c)
    where
      go : Dec (c < g.size) → cond (ltb 0 (dist g c) && ltb (dist g c) g.far) (least (nearer g c) g.size) c ≡ cond (ltb 0 (dist g c) && ltb (dist g c) g.far) (least (nearer h c) h.size) c
      go (yes l) = rw (near_same c l) refl
      go (no l) = let e : dist g c ≡ g.far = outside g c (omega arith) in rw (le-ltb (dist g c) g.far (omega arith), no_more (ltb 0 (dist g c))) refl
        where
          no_more : (b : Bool) → (b && false) ≡ false
          no_more true = refl
          no_more false = refl

  pub distances_same : distances g ≡ distances h
  unfolding distances
  distances_same = tabulate_same (dist g) (dist h) clocks (λ c _. dist_same c)

  pub nexts_same : nexts g ≡ nexts h
  unfolding nexts
  nexts_same = tabulate_same (next g) (next h) clocks (λ c _. next_same c)

-- without a goal among its clocks a graph has no path
no_goal : (g : Net) (c : ℕ) → g.size ≤ g.goal → (p : List ℕ) → Leads g c p → ⊥
no_goal g c h [] l = let e : c ≡ g.goal = l.1 in omega (arith, l.0)
no_goal g c h (d ∷ p) l = no_goal g d h p l.2

module _ (g h : Net) (a : g.size ≤ g.goal) (b : h.size ≤ h.goal) (f : g.far ≡ h.far) where
  dist_none : (c : ℕ) → dist g c ≡ dist h c
  dist_none c = none_far g c (no_goal g c a) ∙ f ∙ sym (none_far h c (no_goal h c b))

  pub distances_none : distances g ≡ distances h
  unfolding distances
  distances_none = tabulate_same (dist g) (dist h) clocks (λ c _. dist_none c)

  pub nexts_none : nexts g ≡ nexts h
  unfolding nexts
  nexts_none = tabulate_same (next g) (next h) clocks (λ c _. next_far g c (none_far g c (no_goal g c a)) ∙ sym (next_far h c (none_far h c (no_goal h c b))))
