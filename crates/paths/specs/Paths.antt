-- The path rule over any graph: which path is best, and the distance and the next clock that lead along it.
use Rattle.std.specs.Prelude.{ℕ, zero, suc, ◌≤◌, ◌<◌, Bool, true, cond, ◌&&◌, ◌≡◌, ◌⊎◌, List, [], ◌∷◌, eqb, ltb, length}

-- a graph: clocks 0 to size - 1, whether a pair leads from one to another, the goal of every path, and the number that stands for "no path"
pub record Net : Type 0 where
  pub size : ℕ
  pub adj : ℕ → ℕ → Bool
  pub goal : ℕ
  pub far : ℕ

-- a path from c is the list of the clocks after c: each a neighbour of the one before, and the goal last
abbrev pub Leads : Net → ℕ → List ℕ → Type 0
Leads g c [] = (c < g.size) × (c ≡ g.goal)
Leads g c (d ∷ p) = (c < g.size) × (g.adj c d ≡ true) × Leads g d p

-- p is smaller than q at the first place where they differ
pub data Smaller : List ℕ → List ℕ → Type 0 where
  at_once : {x y : ℕ} {p q : List ℕ} → x < y → Smaller (x ∷ p) (y ∷ q)
  later : {x : ℕ} {p q : List ℕ} → Smaller p q → Smaller (x ∷ p) (x ∷ q)

-- the path with fewest pairs; of these the one smaller at the first differing clock number
pub record IsBest (g : Net) (c : ℕ) (p : List ℕ) : Type 0 where
  pub leads : Leads g c p
  pub short : (q : List ℕ) → Leads g c q → length p ≤ length q
  pub first : (q : List ℕ) → Leads g c q → length q ≡ length p → (q ≡ p) ⊎ Smaller p q

-- the least i below m with p i; m where there is none
unfoldable pub least : (ℕ → Bool) → ℕ → ℕ
least p zero = zero
least p (suc m) = cond (p zero) zero (suc (least (λ i. p (suc i)) m))

-- some i below m has p i
abbrev pub any : (ℕ → Bool) → ℕ → Bool
any p m = ltb (least p m) m

-- some path of k pairs leads from c to the goal
unfoldable pub reach : Net → ℕ → ℕ → Bool
reach g zero c = ltb c g.size && eqb c g.goal
reach g (suc k) c = ltb c g.size && any (λ d. g.adj c d && reach g k d) g.size

-- the fewest pairs from c to the goal; far where there is no path (of fewer than far pairs)
unfoldable pub dist : Net → ℕ → ℕ
dist g c = least (λ k. reach g k c) g.far

-- d is a neighbour of c that is one pair nearer
abbrev pub nearer : Net → ℕ → ℕ → Bool
nearer g c d = g.adj c d && eqb (suc (dist g d)) (dist g c)

-- the smallest such neighbour; the goal and a clock without a path name themselves
unfoldable pub next : Net → ℕ → ℕ
next g c = cond (ltb 0 (dist g c) && ltb (dist g c) g.far) (least (nearer g c) g.size) c

-- the clocks that k steps along next visit, c left out
unfoldable pub trace : Net → ℕ → ℕ → List ℕ
trace g zero c = []
trace g (suc k) c = next g c ∷ trace g k (next g c)

-- the path that next leads along, where the distance is below far
abbrev pub path : Net → ℕ → List ℕ
path g c = trace g (dist g c) c
