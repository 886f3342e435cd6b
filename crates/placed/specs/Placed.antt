-- The world that is given by the first correspondences of four lists, and what is used of a matrix. Assumes nothing.
use Rattle.std.specs.Prelude.{List, ◌++◌, ℕ, ◌*◌, min, ℤ, length, take, drop, replicate}
use Rattle.numbers.specs.Numbers.{clocks}
use Rattle.graphs.specs.Graphs.{World, world_of}
use Rattle.placed.specs.declared.Given.{Given}

-- so many correspondences, from the front of the lists
abbrev pub world_in : Given → List ℕ → List ℤ → List ℕ → List ℤ → World
world_in g a x c y =
    world_of (take g.links a) (take g.links x) (take g.links c) (take g.links y) g.machines g.files g.pinned g.trace.0

-- a byte for each two clocks, or the whole matrix where it is shorter
abbrev pub cells : List ℕ → ℕ
cells matrix = min (clocks * clocks) (length matrix)

-- that many zeros, and then what there was
abbrev pub cleared : List ℕ → List ℕ
cleared matrix = replicate (cells matrix) 0 ++ drop (cells matrix) matrix
