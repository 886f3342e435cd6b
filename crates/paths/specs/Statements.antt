-- Notions that only the theorems speak of.
use Rattle.std.specs.Prelude.{ℕ, suc, ◌≤◌, ◌<◌, true, ◌≡◌}
use Rattle.paths.specs.Paths.{Net}

-- f is 0 at the goal alone, leads down to it pair by pair, and rises by at most one over a pair
pub record Levels (g : Net) (f : ℕ → ℕ) : Type 0 where
  pub goal_zero : f g.goal ≡ 0
  pub zero_goal : (c : ℕ) → c < g.size → f c ≡ 0 → 0 < g.far → c ≡ g.goal
  pub bound : (c : ℕ) → c < g.size → f c ≤ g.far
  pub down : (c k : ℕ) → c < g.size → f c ≡ suc k → suc k < g.far → (d : ℕ) × (d < g.size) × (g.adj c d ≡ true) × (f d ≡ k)
  pub rise : (c d : ℕ) → c < g.size → d < g.size → g.adj c d ≡ true → f c ≤ suc (f d)

-- h has the clocks, the goal and the bound of g, and every pair of g
pub record Within (g h : Net) : Type 0 where
  pub size : g.size ≤ h.size
  pub goal : g.goal ≡ h.goal
  pub far : g.far ≡ h.far
  pub pairs : (c d : ℕ) → g.adj c d ≡ true → h.adj c d ≡ true
