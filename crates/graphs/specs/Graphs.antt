-- The three graphs: which pairs each has. Assumes nothing.
use Rattle.std.specs.Prelude.{Option, Some, None, Bool, true, false, cond, not, ◌&&◌, ◌||◌, List, [], ◌∷◌, ℕ, ◌*◌, ◌/◌, ◌%◌, ◌^◌, eqb, leb, ltb, length, get_or, ℤ, pos}
use Rattle.numbers.specs.declared.Owner.{Owner}
use Rattle.numbers.specs.declared.Owner.TheVariants.{Domain, Private}
use Rattle.numbers.specs.Numbers.{clocks, what_is}
use Rattle.whole.specs.Pairs.{Pair}
use Rattle.paths.specs.Paths.{Net}
use Rattle.paths.specs.Matrix.{far, tabulate}
use Rattle.graphs.specs.Links.{Link, links_of, list_of}

-- what is known of the recordings: how many machines and files there are, which files are pinned (bit f of `pinned` is file f), the
-- trace-time clock, and the correspondences
pub record World : Type 0 where
  pub machines : ℕ
  pub files : ℕ
  pub pinned : ℕ
  pub trace : ℕ
  pub links : List Link

-- the same from lists: where clock a_k reads x_k, clock b_k reads y_k
abbrev pub world_of : List ℕ → List ℤ → List ℕ → List ℤ → ℕ → ℕ → ℕ → ℕ → World
world_of fs xs gs ys machines files pinned trace = record { machines = machines; files = files; pinned = pinned; trace = trace; links = links_of fs xs gs ys }

-- what clock c is
abbrev pub owner : ℕ → Option Owner
owner c = what_is (record { 0 = c })

-- one domain of two different machines, or for graph 2 the domain REALTIME, 1
unfoldable pub domains : ℕ → ℕ → Option Owner → Option Owner → Bool
domains g machines (Some (Domain d m)) (Some (Domain e n)) =
    eqb d e && (leb 3 g || eqb d 1) && not (eqb m.0 n.0) && ltb m.0 machines && ltb n.0 machines
domains g machines (Some (Domain d m)) (Some (Private f)) = false
domains g machines (Some (Domain d m)) None = false
domains g machines (Some (Private f)) o = false
domains g machines None o = false

-- a listed file's private clock, and the file isn't pinned
unfoldable pub loose : ℕ → ℕ → Option Owner → Bool
loose files pinned (Some (Private f)) = ltb f.0 files && eqb (pinned / 2 ^ f.0 % 2) 0
loose files pinned (Some (Domain d m)) = false
loose files pinned None = false

-- trace time, and the private clock of a listed file that isn't pinned, its own clock apart
unfoldable pub to_trace : World → ℕ → ℕ → Bool
to_trace w c d = eqb c w.trace && loose w.files w.pinned (owner d) && not (eqb c d)

-- "Graph 2 adds a zero-offset pair between any two machines' REALTIME. Graph 3 adds zero-offset pairs between equal domains of any two
-- machines, and from trace time to the private clock of each listed file that isn't pinned, its own clock apart": the pairs that graph g
-- guesses. This alone says which
unfoldable pub guess : ℕ → World → ℕ → ℕ → Bool
guess g w c d =
    leb 2 g && (domains g w.machines (owner c) (owner d) || (leb 3 g && (to_trace w c d || to_trace w d c)))

-- "A pair that has a list gets no zero offset": the correspondences along a pair in graph g, seen from c; none if it is no pair
unfoldable pub or_guess : Bool → List Pair → List Pair
or_guess b (p ∷ ps) = p ∷ ps
or_guess true [] = record { x = pos 0; y = pos 0 } ∷ []
or_guess false [] = []

unfoldable pub along : ℕ → World → ℕ → ℕ → List Pair
along g w c d = or_guess (guess g w c d) (list_of w.links c d)

-- c and d are a pair of graph g
unfoldable pub some : List Pair → Bool
some [] = false
some (p ∷ ps) = true

unfoldable pub joined : ℕ → World → ℕ → ℕ → Bool
joined g w c d = some (along g w c d)

-- graph g, with trace time as the goal of every path
abbrev pub graph : ℕ → World → Net
graph g w = record { size = clocks; adj = joined g w; goal = w.trace; far = far }

-- ---- the matrix that holds a graph, a byte for each two clocks, row after row
-- the pairs that have a correspondence
abbrev pub linked : List Link → ℕ → ℕ → Bool
linked ls c d = some (list_of ls c d)

-- a matrix after the pairs of P were joined in it: their bytes are 1, the others stay. A memory of another size stays as it is
unfoldable pub marked : (ℕ → ℕ → Bool) → List ℕ → List ℕ
marked P m =
    cond (eqb (length m) (clocks * clocks)) (tabulate (λ i. cond (P (i / clocks) (i % clocks)) 1 (get_or m i 0)) 0 (length m)) m
