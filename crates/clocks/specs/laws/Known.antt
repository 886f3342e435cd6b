-- How to know an event's path without a search: a set of clocks that no pair leaves, and numbers that fall along the path. Assumes nothing.
use Rattle.std.specs.Prelude.{◌≡◌, ◌&&◌, ◌||◌, ◌⊎◌, eqb, length}
use Rattle.std.proofs.Math.Path.{refl}
use Rattle.std.proofs.Common.{sym, ap, ◌∙◌, true≢false, inl, inr, ⊎_elim, eq-eqb, ne_eqb}
use Rattle.std.proofs.Math.Bool.{Bool, true, false, cond, not}
use mathlib.Core.List.{List, [], ◌∷◌}
use Prim.Native.Nat.{ℕ, suc, ◌≤◌, ◌<◌}
use Rattle.std.proofs.Math.Nat.{suc_inj}
use native.Mathlib.Omega.{arith}
use Rattle.std.proofs.Math.Decide.{dec_lt, ℕ_discrete}
use Rattle.paths.specs.Paths.{Net, Leads, Smaller, IsBest}
use Rattle.paths.specs.Paths.Smaller.{at_once, later}
use Rattle.paths.proofs.Theorems.{best_is_path, steps_length, steps_small}
use Rattle.paths.specs.laws.Least.{and_left, and_right, all, all_has}
use Rattle.paths.proofs.laws.Bound.{leads_near}
use Rattle.paths.proofs.laws.Reach.{leads_in}
use Rattle.graphs.specs.Graphs.{World, graph}
use Rattle.graphs.specs.Theorems.{contained}
use Rattle.clocks.specs.laws.Chains.{Chosen}

-- ---- no path
-- c is among cs
unfoldable pub among : List ℕ → ℕ → Bool
among [] c = false
among (d ∷ cs) c = eqb d c || among cs c

-- each pair from one of ds leads to one of cs
unfoldable pub inside : Net → List ℕ → List ℕ → Bool
inside g cs [] = true
inside g cs (c ∷ ds) = all (λ d. not (g.adj c d) || among cs d) g.size && inside g cs ds

-- no pair leaves the clocks cs, and the goal is not among them
abbrev pub shut : Net → List ℕ → Bool
shut g cs = not (among cs g.goal) && inside g cs cs

implied : (a b : Bool) → (not a || b) ≡ true → a ≡ true → b ≡ true
implied true b e q = e
implied false b e q = absurd (true≢false (sym q))

module _ (g : Net) where
  inside_has : (cs ds : List ℕ) → inside g cs ds ≡ true → (c d : ℕ) → among ds c ≡ true → d < g.size → g.adj c d ≡ true → among cs d ≡ true
  unfolding inside among
  inside_has cs [] e c d m l a = absurd (true≢false (sym m))
  inside_has cs (h ∷ ds) e c d m l a = go (ℕ_discrete h c) (λ i n. inside_has cs ds i c d n l a)
    where
      to : ℕ → Bool
      to i = not (g.adj h i) || among cs i

      go : Dec (h ≡ c) → (inside g cs ds ≡ true → among ds c ≡ true → among cs d ≡ true) → among cs d ≡ true
      go (yes q) ih = implied (g.adj h d) (among cs d) (all_has to g.size (and_left (all to g.size) (inside g cs ds) e) d l) (ap (λ (i : ℕ). g.adj i d) q ∙ a)
      go (no q) ih = ih (and_right (all to g.size) (inside g cs ds) e) (rw (ne_eqb h c q) at m)

  -- so from none of them a path leads to the goal
  pub shut_none : (cs : List ℕ) → shut g cs ≡ true → (c : ℕ) → among cs c ≡ true → (p : List ℕ) → Leads g c p → ⊥
  shut_none cs e c m [] l = true≢false (sym (and_left (not (among cs g.goal)) (inside g cs cs) e) ∙ ap (λ (i : ℕ). not (among cs i)) (sym l.1) ∙ ap not m)
  shut_none cs e c m (d ∷ p) l = shut_none cs e d (inside_has cs cs (and_right (not (among cs g.goal)) (inside g cs cs) e) c d m (leads_in g d p l.2) l.1) p l.2

-- ---- the best path
-- f is nowhere more than the pairs of a path: it is 0 at the goal, and rises by at most one over a pair
pub record Below (g : Net) (f : ℕ → ℕ) : Type 0 where
  pub goal_zero : f g.goal ≡ 0
  pub rise : (c d : ℕ) → g.adj c d ≡ true → f c ≤ suc (f d)

-- a path along which f falls by one over each pair, and to no smaller neighbour
pub data Falls (g : Net) (f : ℕ → ℕ) : ℕ → List ℕ → Type 0 where
  there : {c : ℕ} → c < g.size → c ≡ g.goal → Falls g f c []
  down : {c d : ℕ} {p : List ℕ} → c < g.size → g.adj c d ≡ true → f c ≡ suc (f d) → ((e : ℕ) → e < d → g.adj c e ≡ true → f c ≤ f e) → Falls g f d p → Falls g f c (d ∷ p)

module _ {g : Net} {f : ℕ → ℕ} (b : Below g f) where
  below_short : (c : ℕ) (q : List ℕ) → Leads g c q → f c ≤ length q
  below_short c [] l = let z : f c ≡ 0 = ap f l.1 ∙ b.goal_zero in omega arith
  below_short c (d ∷ q) l = omega (arith, b.rise c d l.1, below_short d q l.2)

  falls_leads : {c : ℕ} {p : List ℕ} → Falls g f c p → Leads g c p
  falls_leads (there h e) = (h, e)
  falls_leads (down h a e s r) = (h, a, falls_leads r)

  falls_length : {c : ℕ} {p : List ℕ} → Falls g f c p → length p ≡ f c
  falls_length (there h e) = sym (ap f e ∙ b.goal_zero)
  falls_length (down h a e s r) = ap suc (falls_length r) ∙ sym e

  falls_first : {c : ℕ} {p : List ℕ} → Falls g f c p → (q : List ℕ) → Leads g c q → length q ≡ length p → (q ≡ p) ⊎ Smaller p q
  falls_first (there h e) [] l z = inl refl
  falls_first (there h e) (i ∷ q) l z = absurd (omega arith)
  falls_first (down h a e s r) [] l z = absurd (omega arith)
  falls_first (down {c} {d} {p} h a e s r) (i ∷ q) l z = go (dec_lt i d) (dec_lt d i) (λ m. falls_first r q m (suc_inj z))
    where
      go : Dec (i < d) → Dec (d < i) → (Leads g d q → (q ≡ p) ⊎ Smaller p q) → (i ∷ q ≡ d ∷ p) ⊎ Smaller (d ∷ p) (i ∷ q)
      go (yes m) n ih = absurd (omega (arith, s i m l.1, below_short i q l.2, falls_length r))
      go (no m) (yes n) ih = inr (at_once n)
      go (no m) (no n) ih =
          let k : i ≡ d = omega arith in
          rw k (⊎_elim (λ u. inl (ap (λ (x : List ℕ). d ∷ x) u)) (λ u. inr (later u)) (ih (rw k at l.2)))

  pub falls_best : {c : ℕ} {p : List ℕ} → Falls g f c p → IsBest g c p
  falls_best {c} {p} r = record {
    leads = falls_leads r;
    short = λ q l. omega (arith, falls_length r, below_short c q l);
    first = falls_first r;
  }

module _ (g : Net) (c : ℕ) (l : c < g.size) (h : g.goal < g.size) where
  -- for paths of one pair and of two: 0 at the goal, 1 beside it, else 2
  near : ℕ → ℕ
  near i = cond (eqb i g.goal) 0 (cond (g.adj i g.goal) 1 2)

  near_below : Below g near
  unfolding near
  near_below = record { goal_zero = rw (eq-eqb g.goal g.goal refl) refl; rise = rise }
    where
      top : (p q : Bool) → cond p 0 (cond q 1 2) ≤ 2
      top true q = omega arith
      top false true = omega arith
      top false false = omega arith

      one : (p : Bool) → cond p 0 1 ≤ 1
      one true = omega arith
      one false = omega arith

      low : (q : Bool) → 1 ≤ cond q 1 2
      low true = omega arith
      low false = omega arith

      rise : (i j : ℕ) → g.adj i j ≡ true → near i ≤ suc (near j)
      rise i j a = go (ℕ_discrete j g.goal)
        where
          go : Dec (j ≡ g.goal) → near i ≤ suc (near j)
          go (yes e) = rw (← e, a) (omega (arith, one (eqb i j)))
          go (no e) = rw (ne_eqb j g.goal e) (omega (arith, top (eqb i g.goal) (g.adj i g.goal), low (g.adj j g.goal)))

  near_one : (i : ℕ) → (i ≡ g.goal → ⊥) → g.adj i g.goal ≡ true → near i ≡ 1
  unfolding near
  near_one i n a = rw (ne_eqb i g.goal n, a) refl

  near_two : (i : ℕ) → (i ≡ g.goal → ⊥) → g.adj i g.goal ≡ false → near i ≡ 2
  unfolding near
  near_two i n a = rw (ne_eqb i g.goal n, a) refl

  near_some : (i : ℕ) → (i ≡ g.goal → ⊥) → 1 ≤ near i
  near_some i n = go (g.adj i g.goal) refl
    where
      go : (b : Bool) → g.adj i g.goal ≡ b → 1 ≤ near i
      go true e = omega (arith, near_one i n e)
      go false e = omega (arith, near_two i n e)

  -- one pair leads to the goal
  pub one_best : (c ≡ g.goal → ⊥) → g.adj c g.goal ≡ true → IsBest g c (g.goal ∷ [])
  one_best n a =
      falls_best near_below
      (down l a (omega (arith, near_one c n a, near_below.goal_zero)) (λ e m _. omega (arith, near_one c n a, near_some e (λ q. omega arith))) (there h refl))

  -- two pairs lead there by d, no pair does, and by no smaller clock do two
  pub two_best : (d : ℕ) → d < g.size → (c ≡ g.goal → ⊥) → g.adj c g.goal ≡ false → g.adj c d ≡ true → g.adj d g.goal ≡ true
      → all (λ e. not (g.adj c e && g.adj e g.goal)) d ≡ true → IsBest g c (d ∷ g.goal ∷ [])
  two_best d k n z a b s =
      let y : near c ≡ 2 = near_two c n z in
      let o : near d ≡ 1 = near_one d (away d a) b in
      falls_best near_below
      (down l a (omega arith) (λ e m i. omega (arith, near_two e (away e i) (no_pair e m i)))
      (down k b (omega (arith, near_below.goal_zero)) (λ e m i. omega (arith, near_some e (λ q. omega arith)))
      (there h refl)))
    where
      -- whoever has a pair with c is not the goal
      away : (e : ℕ) → g.adj c e ≡ true → e ≡ g.goal → ⊥
      away e i q = true≢false (sym i ∙ ap (g.adj c) q ∙ z)

      neither : (p q : Bool) → not (p && q) ≡ true → p ≡ true → q ≡ false
      neither true true x y = sym x
      neither true false x y = refl
      neither false q x y = absurd (true≢false (sym y))

      no_pair : (e : ℕ) → e < d → g.adj c e ≡ true → g.adj e g.goal ≡ false
      no_pair e m i = neither (g.adj c e) (g.adj e g.goal) (all_has (λ e. not (g.adj c e && g.adj e g.goal)) d s e m) i

-- ---- the path of an event
-- a path of one graph is a path of the graphs after it
leads_more : (w : World) (h g c : ℕ) → h ≤ g → (p : List ℕ) → Leads (graph h w) c p → Leads (graph g w) c p
leads_more w h g c m [] l = l
leads_more w h g c m (d ∷ p) l = (l.0, contained h g w c d m l.1, leads_more w h g d m p l.2)

module _ {w : World} {c : ℕ} where
  known : (g : ℕ) (p : List ℕ) → 1 ≤ g → g ≤ 3 → IsBest (graph g w) c p → ((h : ℕ) → 1 ≤ h → h < g → (q : List ℕ) → Leads (graph h w) c q → ⊥) → Chosen w c g p
  known g p a b k n = record {
    low = a;
    high = b;
    best = k;
    lowest = n;
    short = omega (arith, ap length (best_is_path (graph g w) c (omega arith) p k), steps_length (graph g w) c, steps_small (graph g w) c (leads_near (graph g w) c p (omega arith) k.leads));
  }

  -- the best path of graph 1; the best path of the graph after one that has none
  pub known_first : {p : List ℕ} → IsBest (graph 1 w) c p → Chosen w c 1 p
  known_first {p} k = known 1 p (omega arith) (omega arith) k (λ h a b. absurd (omega arith))

  pub known_after : (g : ℕ) {p : List ℕ} → g < 3 → ((q : List ℕ) → Leads (graph g w) c q → ⊥) → IsBest (graph (suc g) w) c p → Chosen w c (suc g) p
  known_after g {p} b n k = known (suc g) p (omega arith) (omega arith) k (λ h i j q m. n q (leads_more w h g c (omega arith) q m))
