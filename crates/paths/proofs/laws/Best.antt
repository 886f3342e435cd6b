-- What `next` is, and that the path it leads along is the only best path.
use Prim.Native.Nat.{ℕ, zero, suc, ◌-◌, ◌≤◌, ◌<◌}
use Rattle.std.proofs.Math.Nat.{suc_inj}
use Rattle.std.proofs.Common.{eq-or-lt_of_le, le_antisymm, le_of_suc-le-suc, sym, ◌∙◌, inr, ⊎_elim}
use native.Mathlib.Omega.{arith}
use Rattle.std.specs.Prelude.{Bool, false, ◌&&◌, ◌≡◌, ◌⊎◌, eqb, ltb, get_or}
use Rattle.std.proofs.Math.Bool.{true}
use Rattle.std.proofs.Math.Path.{refl, ap}
use Rattle.std.proofs.Math.Logic.{inl}
use mathlib.Core.List.{List, [], ◌∷◌}
use Rattle.std.proofs.Math.ListN.{length, drop}
use borrow.Author.Tests.{lt-ltb, le-ltb, eqb-true, eq-eqb}
use Rattle.paths.specs.Paths.{Net, least, reach, dist, nearer, next, trace, path, Leads, Smaller, IsBest}
use Rattle.paths.specs.Paths.Smaller.{at_once, later}
use Rattle.paths.specs.laws.Least.{and_left, and_right, and_both, least_has, least_to}
use Rattle.paths.proofs.laws.Reach.{reach_next, reach_step, leads_reach, dist_has, dist_to, dist_short, dist_in, at_goal}

apart : {p q p' q' : List ℕ} → Smaller p q → Smaller q' p' → p ≡ p' → q ≡ q' → ⊥
apart (at_once h) (at_once k) e f = omega (arith, ap (λ (l : List ℕ). get_or l 0 0) e, ap (λ (l : List ℕ). get_or l 0 0) f)
apart (at_once h) (later s) e f = omega (arith, ap (λ (l : List ℕ). get_or l 0 0) e, ap (λ (l : List ℕ). get_or l 0 0) f)
apart (later s) (at_once h) e f = omega (arith, ap (λ (l : List ℕ). get_or l 0 0) e, ap (λ (l : List ℕ). get_or l 0 0) f)
apart (later s) (later r) e f = apart s r (ap (drop 1) e) (ap (drop 1) f)

not_both : {p q : List ℕ} → Smaller p q → Smaller q p → ⊥
not_both s r = apart s r refl refl

one_more : (m d : ℕ) (p q : List ℕ) → m ≤ d → (d ≡ m → (q ≡ p) ⊎ Smaller p q) → (d ∷ q ≡ m ∷ p) ⊎ Smaller (m ∷ p) (d ∷ q)
one_more m d p q h ih = go (eq-or-lt_of_le h)
  where
    go : (m ≡ d) ⊎ (m < d) → (d ∷ q ≡ m ∷ p) ⊎ Smaller (m ∷ p) (d ∷ q)
    go (inr l) = inr (at_once l)
    go (inl e) = rw e (⊎_elim (λ s. inl (ap (λ (x : List ℕ). d ∷ x) s)) (λ s. inr (later s)) (ih (sym e)))

-- what the next clock d of c is, where c is at distance k + 1: a neighbour at distance k, and the smallest
pub record IsNext (g : Net) (c k d : ℕ) : Type 0 where
  pub below : d < g.size
  pub pair : g.adj c d ≡ true
  pub near : dist g d ≡ k
  pub smallest : (e : ℕ) → e < g.size → g.adj c e ≡ true → dist g e ≡ k → d ≤ e

and_false : (b : Bool) → (b && false) ≡ false
and_false true = refl
and_false false = refl

module _ (g : Net) where
  -- a neighbour from which k pairs lead on is at k, if c is at one more
  at_k : (k c d : ℕ) → dist g c ≡ suc k → suc k < g.far → g.adj c d ≡ true → reach g k d ≡ true → dist g d ≡ k
  at_k k c d e f a r =
      let l : dist g d ≤ k = dist_to g d k r in
      omega (arith, dist_to g c (suc (dist g d)) (reach_step g (dist g d) c d (dist_in g c (omega arith)) a (dist_has g d (omega arith))))

  near_one : (k c d : ℕ) → dist g c ≡ suc k → g.adj c d ≡ true → dist g d ≡ k → nearer g c d ≡ true
  near_one k c d e a q = and_both _ _ a (eq-eqb (suc (dist g d)) (dist g c) (omega arith))

  abbrev first_near : ℕ → ℕ
  first_near c = least (nearer g c) g.size

  near_below : (k c : ℕ) → dist g c ≡ suc k → suc k < g.far → first_near c < g.size
  near_below k c e f =
      let (d, h, a, r) = reach_next g k c (rw e at (dist_has g c (omega arith))) in
      omega (arith, least_to (nearer g c) g.size d (near_one k c d e a (at_k k c d e f a r)))

  near_is : (k c : ℕ) → dist g c ≡ suc k → suc k < g.far → IsNext g c k (first_near c)
  near_is k c e f =
      let m : ℕ = first_near c in
      let h : m < g.size = near_below k c e f in
      let b : nearer g c m ≡ true = least_has (nearer g c) g.size h in record {
        below = h;
        pair = and_left (g.adj c m) (eqb (suc (dist g m)) (dist g c)) b;
        near = omega (arith, eqb-true (suc (dist g m)) (dist g c) (and_right (g.adj c m) (eqb (suc (dist g m)) (dist g c)) b));
        smallest = λ d h a q. least_to (nearer g c) g.size d (near_one k c d e a q);
      }

  pub next_is : (k c : ℕ) → dist g c ≡ suc k → suc k < g.far → IsNext g c k (next g c)
  unfolding next
  next_is k c e f = rw (lt-ltb 0 (dist g c) (omega arith), lt-ltb (dist g c) g.far (omega arith)) (near_is k c e f)

  -- at a clock that has a path and is not the goal
  pub next_near : (c : ℕ) → dist g c < g.far → (c ≡ g.goal → ⊥) → (k : ℕ) × (dist g c ≡ suc k) × IsNext g c k (next g c)
  next_near c f n = go (dist g c) refl
    where
      go : (m : ℕ) → dist g c ≡ m → (k : ℕ) × (dist g c ≡ suc k) × IsNext g c k (next g c)
      go zero e = absurd (n (at_goal g c e (omega arith)))
      go (suc k) e = (k, e, next_is k c e (omega arith))

  -- the goal and a clock without a path name themselves
  pub next_zero : (c : ℕ) → dist g c ≡ 0 → next g c ≡ c
  unfolding next
  next_zero c e = rw (le-ltb 0 (dist g c) (omega arith))

  pub next_far : (c : ℕ) → dist g c ≡ g.far → next g c ≡ c
  unfolding next
  next_far c e = rw (le-ltb (dist g c) g.far (omega arith), and_false (ltb 0 (dist g c)))

  pub length_trace : (k c : ℕ) → length (trace g k c) ≡ k
  unfolding trace
  length_trace zero c = refl
  length_trace (suc k) c = ap suc (length_trace k (next g c))

  trace_leads : (k c : ℕ) → dist g c ≡ k → k < g.far → Leads g c (trace g k c)
  unfolding trace
  trace_leads zero c e f = (dist_in g c (omega arith), at_goal g c e f)
  trace_leads (suc k) c e f =
      let n = next_is k c e f in
      (dist_in g c (omega arith), n.pair, trace_leads k (next g c) n.near (omega arith))

  trace_first : (k c : ℕ) → dist g c ≡ k → k < g.far → (q : List ℕ) → Leads g c q → length q ≡ k → (q ≡ trace g k c) ⊎ Smaller (trace g k c) q
  unfolding trace
  trace_first zero c e f [] l z = inl refl
  trace_first zero c e f (d ∷ q) l z = absurd (omega arith)
  trace_first (suc k) c e f [] l z = absurd (omega arith)
  trace_first (suc k) c e f (d ∷ q) l z =
      let m : ℕ = next g c in
      let n = next_is k c e f in
      let z' : length q ≡ k = suc_inj z in
      let r : reach g k d ≡ true = rw z' at (leads_reach g d q l.2) in
      let a : dist g d ≡ k = at_k k c d e f l.1 r in
      let m≤d : m ≤ d = n.smallest d (dist_in g d (omega arith)) l.1 a in
      one_more m d (trace g k m) q m≤d (λ (s : d ≡ m). trace_first k m n.near (omega arith) q (rw s at l.2) z')

  pub path_best : (c : ℕ) → dist g c < g.far → IsBest g c (path g c)
  path_best c f = record {
    leads = trace_leads (dist g c) c refl f;
    short = λ q l. rw (length_trace (dist g c) c) (dist_short g c q l);
    first = λ q l z. trace_first (dist g c) c refl f q l (z ∙ length_trace (dist g c) c);
  }

  pub best_unique : (c : ℕ) (p q : List ℕ) → IsBest g c p → IsBest g c q → p ≡ q
  best_unique c p q a b =
      let z : length p ≡ length q = le_antisymm (a.short q b.leads) (b.short p a.leads) in
      ⊎_elim (λ s. sym s)
      (λ s. ⊎_elim (λ r. r) (λ r. absurd (not_both s r)) (b.first p a.leads z))
      (a.first q b.leads (sym z))

  -- along the path the distance falls by one at each step
  pub trace_dist : (k c : ℕ) → dist g c ≡ k → k < g.far → (i : ℕ) → i ≤ k → dist g (get_or (c ∷ trace g k c) i 0) ≡ k - i
  unfolding trace
  trace_dist k c e f zero h = omega arith
  trace_dist zero c e f (suc i) h = absurd (omega arith)
  trace_dist (suc k) c e f (suc i) h =
      omega (arith, trace_dist k (next g c) (next_is k c e f).near (omega arith) i (le_of_suc-le-suc h))
