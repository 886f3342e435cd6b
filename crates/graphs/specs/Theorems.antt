-- What the definitions come to. Assumes nothing.
use Rattle.std.specs.Prelude.{◌≡◌, true, ◌||◌, List, map, ℕ, ◌≤◌}
use Rattle.whole.specs.Pairs.{swapped}
use Rattle.graphs.specs.Links.{Link, list_of}
use Rattle.graphs.specs.Graphs.{World, guess, some, joined}
use Rattle.graphs.specs.laws.Matrix as matrix
use Rattle.graphs.specs.laws.Shape as shape
use Rattle.graphs.specs.laws.Matrix.{Holds}
use Rattle.graphs.specs.laws.Marked.{filled_to}
use Rattle.graphs.specs.laws.Marked as marked

-- A pair of graph g is one that has a correspondence, in either direction, or that graph g guesses.
pub pair_is : (g : ℕ) (w : World) (c d : ℕ) → joined g w c d ≡ (guess g w c d || some (list_of w.links c d))
pair_is = matrix.joined_is

-- "A pair of clocks keeps one list": seen from the other end it is the same list, each correspondence swapped.
pub one_list : (ls : List Link) (c d : ℕ) → (c ≡ d → ⊥) → list_of ls d c ≡ map swapped (list_of ls c d)
one_list = shape.list_swapped

-- A pair has no direction.
pub symmetric : (g : ℕ) (w : World) (c d : ℕ) → joined g w c d ≡ joined g w d c
symmetric = shape.joined_sym

-- Graph 2 contains graph 1, and graph 3 contains graph 2.
pub contained : (g h : ℕ) (w : World) (c d : ℕ) → g ≤ h → joined g w c d ≡ true → joined h w c d ≡ true
contained = shape.joined_more

-- The matrix in which the correspondences, and then the guesses of the graphs from 1 to g, are joined holds the pairs of graph g.
pub filled : (g : ℕ) (w : World) → Holds (joined g w) (filled_to g w)
filled = marked.filled_holds
