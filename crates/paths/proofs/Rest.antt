-- How the clocks are listed that a search has to look at: those other than the target from which a pair leads, since no other clock has a path or is on one.
use Prim.Native.Nat.{ℕ, ◌+◌, ◌≤◌, ◌<◌, zero-le}
use native.Mathlib.Omega.{arith}
use native.Mathlib.Decide.{dec_lt}
use mathlib.Core.Bool.{true≢false}
use mathlib.Core.Path.{◌≡◌, sym, ◌∙◌}
use mathlib.Core.List.{List}
use borrow.Author.Count.{below_more}
use lib.ListN.{length, get_or, set}
use lib.Seq.{get_or-set_same, get_or-set_other}
use Rattle.paths.specs.Paths.{Net, dist}
use Rattle.paths.specs.Matrix.{far, held}
use Rattle.paths.proofs.laws.Reach.{dist_le, at_goal, goal_at}
use Rattle.paths.proofs.laws.Best.{next_near}
use Rattle.paths.specs.laws.Search.{Bare, Among, Rest}

-- a clock other than the target without a pair has no path
pub bare_far : (m : List ℕ) (n t c : ℕ) → (c ≡ t → ⊥) → Bare m n c → dist (held m n t) c ≡ far
bare_far m n t c ne b = go (dec_lt (dist (held m n t) c) far)
  where
    go : Dec (dist (held m n t) c < far) → dist (held m n t) c ≡ far
    go (yes f) = let (k, q, i) = next_near (held m n t) c f ne in absurd (true≢false (sym i.pair ∙ b _ i.below))
    go (no f) = omega (arith, dist_le (held m n t) c)

-- any other clock than the target is at one pair or more
pub other_off : (g : Net) (c : ℕ) → 0 < g.far → (c ≡ g.goal → ⊥) → 1 ≤ dist g c
other_off g c f ne = go (dec_lt 0 (dist g c))
  where
    go : Dec (0 < dist g c) → 1 ≤ dist g c
    go (yes h) = h
    go (no h) = absurd (ne (at_goal g c (omega arith) f))

pub rest_none : (g : Net) (k : ℕ) (ls : List ℕ) → Rest g k ls 0 0
rest_none g k ls = record { below = λ i h. absurd (omega arith); off = λ i h. absurd (omega arith); rising = λ i j a h k. absurd (omega arith); all = λ e h. absurd (omega arith) }

module _ {g : Net} {k : ℕ} {ls : List ℕ} {m c : ℕ} (s : Rest g k ls m c) where
  -- the next clock is nearer or has no path
  pub rest_skip : (k ≤ dist g c → dist g c < g.far → ⊥) → Rest g k ls m (c + 1)
  rest_skip n = record {
    below = λ i h. omega (arith, s.below i h);
    off = s.off;
    rising = s.rising;
    all = below_more _ c s.all (λ h f. absurd (n h f));
  }

  -- it is the target
  pub rest_goal : c ≡ g.goal → g.goal < g.size → 0 < k → Rest g k ls m (c + 1)
  rest_goal e l u = rest_skip (λ h f. let z : dist g c ≡ 0 = rw e (goal_at g l) in omega arith)

  -- it is put at the end
  pub rest_put : k ≤ dist g c → m < length ls → Rest g k (set ls m c) (m + 1) (c + 1)
  rest_put u r = record {
    below = below_more _ m (λ i h. omega (arith, old i h, s.below i h)) (omega (arith, new));
    off = below_more _ m (λ i h. rw (old i h) (s.off i h)) (rw new u);
    rising = λ i j a h q. below_more (λ j. (i : ℕ) → i < j → get_or (set ls m c) i 0 < get_or (set ls m c) j 0) m (λ j q i h. omega (arith, old i (omega arith), old j q, s.rising i j zero-le h q)) (λ i h. omega (arith, old i h, new, s.below i h)) j q i h;
    all = below_more _ c (λ e h v f. kept e (s.all e h v f)) (λ _ _. (m, zero-le, omega arith, new));
  }
    where
      old : (i : ℕ) → i < m → get_or (set ls m c) i 0 ≡ get_or ls i 0
      old i h = get_or-set_other ls m i c 0 (λ q. omega arith)

      new : get_or (set ls m c) m 0 ≡ c
      new = get_or-set_same ls m c 0 r

      kept : (e : ℕ) → Among ls 0 m e → Among (set ls m c) 0 (m + 1) e
      kept e w = (w.0, w.1, omega (arith, w.2), old w.0 w.2 ∙ w.3)
