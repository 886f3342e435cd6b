-- What the definitions come to, over any graph g and any clock c.
use Rattle.std.specs.Prelude.{ℕ, ◌-◌, ◌≤◌, ◌<◌, ◌≡◌, refl, List, ◌∷◌, length, get_or, take, drop, replicate, Ok, Err}
use Rattle.std.proofs.Common.{arith, ap, ◌∙◌}
use Rattle.numbers.specs.Numbers.{clocks}
use Rattle.paths.specs.Paths.{Net, Leads, IsBest, dist, path}
use Rattle.paths.specs.Statements.{Levels, Within}
use Rattle.paths.specs.Matrix.{far, graph_of, nexts, along, traced}
use Rattle.paths.specs.declared.NoRoute.TheVariants.{Nowhere, Short}
use Rattle.paths.proofs.laws.Reach as reach
use Rattle.paths.proofs.laws.Best as best
use Rattle.paths.proofs.laws.Bound as bound
use Rattle.paths.proofs.laws.Cert as cert
use Rattle.paths.proofs.laws.Along as walk
use Rattle.paths.specs.laws.Graph as graph
use Rattle.paths.proofs.laws.Traced as trace

module _ (g : Net) (c : ℕ) where
  -- The path that next leads along is the best path ..
  pub path_best : dist g c < g.far → IsBest g c (path g c)
  path_best = best.path_best g c

  -- .. so that wherever some path leads, one is best, if far is at least the number of clocks ..
  pub best_exists : g.size ≤ g.far → (p : List ℕ) → Leads g c p → IsBest g c (path g c)
  best_exists b p l = path_best (bound.leads_near g c p b l)

  -- .. there is no other best path ..
  pub best_unique : (p q : List ℕ) → IsBest g c p → IsBest g c q → p ≡ q
  best_unique = best.best_unique g c

  -- .. and so whatever is best is that path.
  pub best_is_path : g.size ≤ g.far → (p : List ℕ) → IsBest g c p → p ≡ path g c
  best_is_path b p h = best_unique p (path g c) h (best_exists b p h.leads)

  -- The distance is far exactly where there is no path of any length.
  pub far_no_path : g.size ≤ g.far → dist g c ≡ g.far → (p : List ℕ) → Leads g c p → ⊥
  far_no_path b e p l = omega (arith, bound.leads_near g c p b l)

  pub no_path_far : ((p : List ℕ) → Leads g c p → ⊥) → dist g c ≡ g.far
  no_path_far = bound.none_far g c

  -- The distance is the path's length, and is below the number of clocks.
  pub steps_length : length (path g c) ≡ dist g c
  steps_length = best.length_trace g (dist g c) c

  pub steps_small : dist g c < g.far → dist g c < g.size
  steps_small = bound.dist_small g c

  -- Whoever reads each next clock from the list of next clocks goes along that path, and ends at the goal.
  pub along_path : g.size ≤ clocks → (ns : List ℕ) → ns ≡ nexts g → dist g c < g.far → along ns (dist g c) c ≡ path g c
  along_path b ns e f = rw e (walk.along_trace g b (dist g c) c refl f)

  pub path_end : dist g c < g.far → get_or (c ∷ path g c) (dist g c) 0 ≡ g.goal
  path_end = walk.path_end g c

  -- A best path repeats no clock, and does not come back to c.
  pub no_repeat : g.size ≤ g.far → (p : List ℕ) → IsBest g c p → (i j : ℕ) → i < j → j ≤ length p → get_or (c ∷ p) i 0 ≡ get_or (c ∷ p) j 0 → ⊥
  no_repeat b p h i j l m e =
      let f : dist g c < g.far = bound.leads_near g c p b h.leads in
      let q : p ≡ path g c = best_is_path b p h in
      let z : length p ≡ dist g c = ap length q ∙ steps_length in
      let at : (k : ℕ) → k ≤ dist g c → dist g (get_or (c ∷ p) k 0) ≡ dist g c - k = λ k n. rw q (best.trace_dist g (dist g c) c refl f k n) in
      omega (arith, at i (omega arith), at j (omega arith), ap (dist g) e)

  -- The distance is the one function that is 0 at the goal alone, leads down to it pair by pair, and rises by at most one over a pair.
  pub dist_only : (f : ℕ → ℕ) → Levels g f → c < g.size → f c ≡ dist g c
  dist_only f h l = cert.cert_dist (cert.levels_cert g f h) c l

pub dist_levels : (g : Net) → g.goal < g.size → Levels g (dist g)
dist_levels = cert.dist_levels

-- More pairs, no larger distance.
pub dist_more : (g h : Net) → Within g h → (c : ℕ) → dist h c ≤ dist g c
dist_more g h w = reach.dist_more w

-- All this holds of the graph that is searched: it has at most as many clocks as there are, and far is more. So steps are at most the number of clocks less one.
pub graph_fits : (m : List ℕ) (n t : ℕ) → ((graph_of m n t).size ≤ clocks) × ((graph_of m n t).size ≤ (graph_of m n t).far)
graph_fits m n t = (graph.graph_small m n t, omega (arith, graph.graph_small m n t, graph.graph_far m n t))

pub steps_most : (m : List ℕ) (n t c : ℕ) → dist (graph_of m n t) c < far → dist (graph_of m n t) c ≤ clocks - 1
steps_most m n t c f = omega (arith, graph.graph_far m n t, steps_small (graph_of m n t) c (omega (arith, graph.graph_far m n t)), graph.graph_small m n t)

-- What the answers of `path` tell. Steps: the best path stands at the start of the memory, and zeros after it.
module _ (g : Net) (c room : ℕ) where
  pub steps_best : (k : ℕ) → (traced g c room).answer ≡ Ok k → (k ≤ room) × IsBest g c (take k (traced g c room).out) × (drop k (traced g c room).out ≡ replicate (room - k) 0)
  steps_best = trace.steps_best g c room

  -- Nowhere: there is no path, and the memory is zeros.
  pub nowhere_none : g.size ≤ g.far → (traced g c room).answer ≡ Err Nowhere → ((p : List ℕ) → Leads g c p → ⊥) × ((traced g c room).out ≡ replicate room 0)
  nowhere_none b e = let (f, z) = trace.nowhere_far g c room e in (far_no_path g c b f, z)

  -- Short: the best path has more clocks than the memory, which is zeros.
  pub short_longer : (traced g c room).answer ≡ Err Short → IsBest g c (path g c) × (room < length (path g c)) × ((traced g c room).out ≡ replicate room 0)
  short_longer = trace.short_longer g c room
