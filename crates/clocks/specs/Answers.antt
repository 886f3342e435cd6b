-- An event's answer. Assumes nothing.
use Rattle.std.specs.Prelude.{Bool, true, false, cond, ◌&&◌, List, [], ◌∷◌, ◌++◌, map, ℕ, ◌+◌, ◌*◌, ◌-◌, ltb, leb, eqb, length, replicate, ℤ, pos, Option, Some, None, Result, Ok, Err}
use Rattle.std.specs.Int.Signed.{lt_z}
use Rattle.whole.specs.Pairs.{Pair, converted}
use Rattle.paths.specs.Paths.{dist, path}
use Rattle.paths.specs.Matrix.{far}
use Rattle.numbers.specs.Numbers.{clocks}
use Rattle.graphs.specs.Graphs.{World, along, graph}
use Rattle.clocks.specs.declared.Timed.{Timed}
use Rattle.clocks.specs.declared.Reason.{Reason}
use Rattle.clocks.specs.declared.Reason.TheVariants.{Outside, Early}

-- an event's answer: its time on the trace-time clock, the graph and the steps of its path; or why it was dropped
pub data Answer : Type 0 where
  Placed : ℤ → ℕ → ℕ → Answer
  Dropped : ℕ → Answer

-- a value converted along a pair's list; what was out of range stays so
unfoldable pub through : List Pair → Option ℤ → Option ℤ
through ps (Some t) = converted t ps
through ps None = None

-- a value converted along a path of graph g from clock c, pair by pair: Some if it is within 64 bits after each pair
unfoldable pub carried : ℕ → World → ℕ → List ℕ → Option ℤ → Option ℤ
carried g w c [] v = v
carried g w c (d ∷ p) v = carried g w d p (through (along g w c d) v)

-- the drops: 1 unrelated, 2 out of range, 3 before the start
abbrev pub unrelated : ℕ
unrelated = 1

abbrev pub outside : ℕ
outside = 2

abbrev pub early : ℕ
early = 3

-- the number of a drop, and what the code's result says of an event that has a path
abbrev pub number : Reason → ℕ
number Outside = outside
number Early = early

abbrev pub told : Result Timed Reason → Answer
told (Ok p) = Placed p.time p.graph p.steps
told (Err r) = Dropped (number r)

-- what the value at the end of a path of so many steps in graph g comes to
unfoldable pub ended : ℕ → ℕ → Option ℤ → Answer
ended g steps None = Dropped outside
ended g steps (Some t) = cond (lt_z t (pos 0)) (Dropped early) (Placed t g steps)

-- by the best path in graph g
unfoldable pub placed : ℕ → World → ℕ → ℤ → Answer
placed g w c t = ended g (length (path (graph g w) c)) (carried g w c (path (graph g w) c) (Some t))

-- graph g has a path from c to trace time
unfoldable pub related : ℕ → World → ℕ → Bool
related g w c = ltb (dist (graph g w) c) far

-- "An event uses the lowest graph with a path to trace time": the answer of an event on clock c that reads t
unfoldable pub answer_of : World → ℕ → ℤ → Answer
answer_of w c t =
    cond (related 1 w c) (placed 1 w c t)
    (cond (related 2 w c) (placed 2 w c t)
    (cond (related 3 w c) (placed 3 w c t)
    (Dropped unrelated)))

-- ---- many events
-- each event's answer: event k is on clock c_k and reads t_k, as far as both lists go
unfoldable pub answers_of : World → List ℕ → List ℤ → List Answer
answers_of w [] ts = []
answers_of w (c ∷ cs) [] = []
answers_of w (c ∷ cs) (t ∷ ts) = answer_of w c t ∷ answers_of w cs ts

-- an answer as three numbers. Placed: the time, the graph, 1 to 3, and the steps; dropped: 3 and the drop's number, 4 to 6
unfoldable pub time_of : Answer → ℤ
time_of (Placed t g n) = t
time_of (Dropped d) = pos 0

unfoldable pub kind_of : Answer → ℕ
kind_of (Placed t g n) = g
kind_of (Dropped d) = 3 + d

unfoldable pub steps_of : Answer → ℕ
steps_of (Placed t g n) = n
steps_of (Dropped d) = 0

-- the most correspondences that count: 32 entries and 256 snapshots
abbrev pub most : ℕ
most = 288

-- the lengths of the four lent memories
pub record Room : Type 0 where
  pub times : ℕ
  pub kinds : ℕ
  pub steps : ℕ
  pub matrix : ℕ

-- the correspondences are not too many, each event has room for its three numbers, and the matrix has a byte for each two clocks
unfoldable pub fits : ℕ → ℕ → Room → Bool
fits links events room =
    leb links most && leb events room.times && leb events room.kinds && leb events room.steps && eqb room.matrix (clocks * clocks)

-- what the lent memories hold at the end
pub record Filled : Type 0 where
  pub done : Bool
  pub times : List ℤ
  pub kinds : List ℕ
  pub steps : List ℕ
  pub matrix : List ℕ

-- a list, then zeros to the end of its memory
abbrev pub padded {ℓ} : {A : Type ℓ} → A → ℕ → List A → List A
padded z room xs = xs ++ replicate (room - length xs) z

-- the answers, then zeros, and zeros in the matrix; zeros alone where something doesn't fit
unfoldable pub filled : World → List ℕ → List ℤ → Room → Filled
filled w cs ts room =
    cond (fits (length w.links) (length (answers_of w cs ts)) room)
    (record {
      done = true;
      times = padded (pos 0) room.times (map time_of (answers_of w cs ts));
      kinds = padded 0 room.kinds (map kind_of (answers_of w cs ts));
      steps = padded 0 room.steps (map steps_of (answers_of w cs ts));
      matrix = replicate room.matrix 0;
    })
    (record {
      done = false;
      times = replicate room.times (pos 0);
      kinds = replicate room.kinds 0;
      steps = replicate room.steps 0;
      matrix = replicate room.matrix 0;
    })
