-- `reach` says whether there is a path of k pairs, and `dist` is the least such k.
use Prim.Native.Nat.{ℕ, zero, suc, ◌≤◌, ◌<◌}
use Rattle.std.proofs.Common.{arith, ap, ◌∙◌}
use Rattle.std.proofs.Math.Decide.{dec_lt}
use Rattle.std.specs.Prelude.{true, ◌&&◌, ◌≡◌, refl, List, [], ◌∷◌, eqb, ltb, length}
use borrow.Author.Tests.{lt-ltb, ltb-true, eqb-true, eq-eqb}
use Rattle.paths.specs.Paths.{Net, any, reach, dist, Leads}
use Rattle.paths.specs.Statements.{Within}
use Rattle.paths.specs.laws.Least.{and_left, and_right, and_both, not_so, least_le, least_has, least_to, least_none, any_of, any_has}

module _ (g : Net) where
  -- a path starts at a clock
  pub reach_in : (k c : ℕ) → reach g k c ≡ true → c < g.size
  unfolding reach
  reach_in zero c e = ltb-true c g.size (and_left (ltb c g.size) (eqb c g.goal) e)
  reach_in (suc k) c e = ltb-true c g.size (and_left (ltb c g.size) (any (λ d. g.adj c d && reach g k d) g.size) e)

  -- without a pair: the goal alone
  pub reach_here : (c : ℕ) → c < g.size → c ≡ g.goal → reach g 0 c ≡ true
  unfolding reach
  reach_here c h e = and_both _ _ (lt-ltb c g.size h) (eq-eqb c g.goal e)

  pub reach_goal : (c : ℕ) → reach g 0 c ≡ true → c ≡ g.goal
  unfolding reach
  reach_goal c e = eqb-true c g.goal (and_right (ltb c g.size) (eqb c g.goal) e)

  -- a pair, and a path on from there
  pub reach_step : (k c d : ℕ) → c < g.size → g.adj c d ≡ true → reach g k d ≡ true → reach g (suc k) c ≡ true
  unfolding reach
  reach_step k c d h a r = and_both _ _ (lt-ltb c g.size h) (any_of _ g.size d (reach_in k d r) (and_both _ _ a r))

  -- of a path of one pair more: its first pair, and the path from there
  pub reach_next : (k c : ℕ) → reach g (suc k) c ≡ true → (d : ℕ) × (d < g.size) × (g.adj c d ≡ true) × (reach g k d ≡ true)
  unfolding reach
  reach_next k c e =
      let (d, h, b) = any_has (λ d. g.adj c d && reach g k d) g.size (and_right (ltb c g.size) (any (λ d. g.adj c d && reach g k d) g.size) e) in
      (d, h, and_left (g.adj c d) (reach g k d) b, and_right (g.adj c d) (reach g k d) b)

  pub leads_in : (c : ℕ) (p : List ℕ) → Leads g c p → c < g.size
  leads_in c [] l = l.0
  leads_in c (d ∷ p) l = l.0

  pub leads_reach : (c : ℕ) (p : List ℕ) → Leads g c p → reach g (length p) c ≡ true
  leads_reach c [] l = reach_here c l.0 l.1
  leads_reach c (d ∷ p) l = reach_step (length p) c d l.0 l.1 (leads_reach d p l.2)

  pub reach_leads : (k c : ℕ) → reach g k c ≡ true → (p : List ℕ) × (Leads g c p) × (length p ≡ k)
  reach_leads zero c e = ([], (reach_in 0 c e, reach_goal c e), refl)
  reach_leads (suc k) c e =
      let (d, h, a, r) = reach_next k c e in
      let (p, l, q) = reach_leads k d r in
      (d ∷ p, (reach_in (suc k) c e, a, l), ap suc q)

  pub dist_has : (c : ℕ) → dist g c < g.far → reach g (dist g c) c ≡ true
  unfolding dist
  dist_has c h = least_has (λ k. reach g k c) g.far h

  pub dist_le : (c : ℕ) → dist g c ≤ g.far
  unfolding dist
  dist_le c = least_le (λ k. reach g k c) g.far

  pub dist_to : (c k : ℕ) → reach g k c ≡ true → dist g c ≤ k
  unfolding dist
  dist_to c k e = least_to (λ k. reach g k c) g.far k e

  -- every path has at least dist pairs
  pub dist_short : (c : ℕ) (p : List ℕ) → Leads g c p → dist g c ≤ length p
  dist_short c p l = dist_to c (length p) (leads_reach c p l)

  -- only a clock has a distance
  pub dist_in : (c : ℕ) → dist g c < g.far → c < g.size
  dist_in c h = reach_in (dist g c) c (dist_has c h)

  pub outside : (c : ℕ) → g.size ≤ c → dist g c ≡ g.far
  unfolding dist
  outside c h = least_none (λ k. reach g k c) g.far (λ k _. not_so (reach g k c) (λ e. omega (arith, reach_in k c e)))

  -- distance 0 is the goal's, and no other clock's
  pub at_goal : (c : ℕ) → dist g c ≡ 0 → 0 < g.far → c ≡ g.goal
  at_goal c e f = reach_goal c (rw e at (dist_has c (omega arith)))

  pub goal_at : g.goal < g.size → dist g g.goal ≡ 0
  goal_at h = omega (arith, dist_to g.goal 0 (reach_here g.goal h refl))

  -- over a pair the distance falls by at most one
  pub dist_rise : (c d : ℕ) → c < g.size → g.adj c d ≡ true → dist g c ≤ suc (dist g d)
  dist_rise c d h a = go (dec_lt (dist g d) g.far)
    where
      go : Dec (dist g d < g.far) → dist g c ≤ suc (dist g d)
      go (yes f) = dist_to c (suc (dist g d)) (reach_step (dist g d) c d h a (dist_has d f))
      go (no f) = omega (arith, dist_le c)

module _ {g h : Net} (w : Within g h) where
  reach_more : (k c : ℕ) → reach g k c ≡ true → reach h k c ≡ true
  reach_more zero c e = reach_here h c (omega (arith, reach_in g 0 c e, w.size)) (reach_goal g c e ∙ w.goal)
  reach_more (suc k) c e =
      let (d, l, a, r) = reach_next g k c e in
      reach_step h k c d (omega (arith, reach_in g (suc k) c e, w.size)) (w.pairs c d a) (reach_more k d r)

  -- more pairs, no larger distance
  pub dist_more : (c : ℕ) → dist h c ≤ dist g c
  dist_more c = go (dec_lt (dist g c) g.far)
    where
      go : Dec (dist g c < g.far) → dist h c ≤ dist g c
      go (yes f) = dist_to h c (dist g c) (reach_more (dist g c) c (dist_has g c f))
      go (no f) = omega (arith, dist_le h c, w.far)
