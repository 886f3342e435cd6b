-- The graph that a matrix of bytes holds, and what the functions answer of it.
use Rattle.std.specs.Prelude.{ℕ, zero, suc, ◌+◌, ◌*◌, ◌-◌, Bool, false, cond, ◌&&◌, List, [], ◌∷◌, ◌++◌, ltb, leb, eqb, length, get_or, replicate, Result, Ok, Err}
use Rattle.numbers.specs.Numbers.{clocks}
use Rattle.paths.specs.Paths.{Net, dist, next, path}
use Rattle.paths.specs.declared.NoRoute.{NoRoute}
use Rattle.paths.specs.declared.NoRoute.TheVariants.{Nowhere, Short}

-- the number that stands for "no path"
abbrev pub far : ℕ
far = 65535

-- row c, column d of a matrix of n by n bytes: not 0 where a pair leads from c to d
abbrev pub pair_of : List ℕ → ℕ → ℕ → ℕ → Bool
pair_of m n c d = ltb 0 (get_or m (c * n + d) 0)

-- n is at most the number of clocks, m has n by n bytes, and t is one of the n clocks
unfoldable pub is_graph : List ℕ → ℕ → ℕ → Bool
is_graph m n t = leb n clocks && (eqb (length m) (n * n) && ltb t n)

-- the graph of the matrix m, with the goal t
abbrev pub held : List ℕ → ℕ → ℕ → Net
held m n t = record { size = n; adj = pair_of m n; goal = t; far = far }

-- the graph without clocks, in which no path leads anywhere
abbrev pub empty : Net
empty = record { size = 0; adj = λ _ _. false; goal = 0; far = far }

-- the graph that is searched
unfoldable pub graph_of : List ℕ → ℕ → ℕ → Net
graph_of m n t = cond (is_graph m n t) (held m n t) empty

-- f a, f (a + 1), .., n numbers in all
unfoldable pub tabulate : (ℕ → ℕ) → ℕ → ℕ → List ℕ
tabulate f a zero = []
tabulate f a (suc n) = f a ∷ tabulate f (suc a) n

-- each clock's distance
unfoldable pub distances : Net → List ℕ
distances g = tabulate (dist g) 0 clocks

-- each clock's next clock
unfoldable pub nexts : Net → List ℕ
nexts g = tabulate (next g) 0 clocks

-- the clocks that k steps visit, c left out, if the next clock of each clock is read from a list
unfoldable pub along : List ℕ → ℕ → ℕ → List ℕ
along ns zero c = []
along ns (suc k) c = get_or ns c 0 ∷ along ns k (get_or ns c 0)

-- what the tracing of a path answers, and what the lent memory holds then
pub record Traced : Type 0 where
  pub answer : Result ℕ NoRoute
  pub out : List ℕ

-- the best path from c, its length and its clocks, then zeros to the end of a memory of `room` elements; zeros alone where there is no path or the memory is too short for it
unfoldable pub traced : Net → ℕ → ℕ → Traced
traced g c room =
    cond (eqb (dist g c) g.far) (record { answer = Err Nowhere; out = replicate room 0 })
    (cond (ltb room (dist g c)) (record { answer = Err Short; out = replicate room 0 })
    (record { answer = Ok (dist g c); out = path g c ++ replicate (room - dist g c) 0 }))
