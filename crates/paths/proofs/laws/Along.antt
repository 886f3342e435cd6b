-- Along the list of next clocks lies the best path.
use Prim.Native.Nat.{ℕ, zero, suc, ◌≤◌, ◌<◌}
use Rattle.std.proofs.Common.{arith, ap}
use Rattle.std.proofs.Math.Decide.{dec_lt}
use Rattle.std.specs.Prelude.{◌≡◌, length, get_or}
use Rattle.std.proofs.Math.Path.{refl}
use mathlib.Core.List.{List, ◌∷◌}
use Rattle.numbers.specs.Numbers.{clocks}
use Rattle.paths.specs.Paths.{Net, dist, next, trace, path}
use Rattle.paths.specs.Matrix.{nexts, along}
use Rattle.paths.proofs.laws.Reach.{dist_in, dist_le, at_goal}
use Rattle.paths.proofs.laws.Best.{next_is, next_zero, next_far, trace_dist}
use Rattle.paths.proofs.laws.Table.{get_d_nexts, at_nexts}

pub length_along : (ns : List ℕ) (k c : ℕ) → length (along ns k c) ≡ k
unfolding along
length_along ns zero c = refl
length_along ns (suc k) c = ap suc (length_along ns k (get_or ns c 0))

module _ (g : Net) where
  pub along_trace : g.size ≤ clocks → (k c : ℕ) → dist g c ≡ k → k < g.far → along (nexts g) k c ≡ trace g k c
  unfolding along trace
  along_trace b zero c e f = refl
  along_trace b (suc k) c e f =
      rw (get_d_nexts g c (omega (arith, dist_in g c (omega arith))))
      (ap (λ (p : List ℕ). next g c ∷ p) (along_trace b k (next g c) (next_is g k c e f).near (omega arith)))

  -- after dist steps stands the goal
  pub path_end : (c : ℕ) → dist g c < g.far → get_or (c ∷ path g c) (dist g c) 0 ≡ g.goal
  path_end c f = at_goal g _ (omega (arith, trace_dist g (dist g c) c refl f (dist g c) (omega arith))) (omega arith)

  -- a next clock is a clock, or the clock itself
  next_below : (b c : ℕ) → g.size ≤ b → c < b → next g c < b
  next_below b c h l = go (dist g c) refl
    where
      up : (k : ℕ) → dist g c ≡ suc k → Dec (suc k < g.far) → next g c < b
      up k e (yes f) = omega (arith, (next_is g k c e f).below)
      up k e (no f) = omega (arith, next_far g c (omega (arith, dist_le g c)))

      go : (m : ℕ) → dist g c ≡ m → next g c < b
      go zero e = omega (arith, next_zero g c e)
      go (suc k) e = up k e (dec_lt (suc k) g.far)

  pub nexts_below : g.size ≤ clocks → {ns : List ℕ} → ns ≡ nexts g → (c : ℕ) → c < clocks → get_or ns c 0 < clocks
  nexts_below b e c h = rw (at_nexts g e c h) (next_below clocks c b h)
