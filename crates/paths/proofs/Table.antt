-- From the arrays that a search fills to the lists of the contracts.
use Prim.Native.Nat.{ℕ, ◌+◌, ◌≤◌, ◌<◌, zero-le}
use native.Mathlib.Omega.{arith}
use mathlib.Core.Bool.{true, false}
use mathlib.Core.Path.{◌≡◌, sym, ◌∙◌}
use mathlib.Core.List.{List}
use borrow.Author.Count.{below_more}
use lib.ListN.{length, get_or, set, replicate, length-set, length-replicate, get_or-replicate}
use lib.Seq.{get_or-set_same, get_or-set_other}
use Rattle.numbers.specs.Numbers.{clocks}
use Rattle.paths.specs.Matrix.{far, is_graph, held, empty, graph_of, distances, nexts}
use Rattle.paths.proofs.laws.Reach.{outside}
use Rattle.paths.proofs.laws.Best.{next_far}
use Rattle.paths.proofs.laws.Table.{distances_is, nexts_is}
use Rattle.paths.specs.laws.Graph.{graph_held, graph_empty}
use Rattle.paths.specs.laws.Search.{Selves, State}
use Rattle.paths.proofs.Levels.{done}

-- no graph: the arrays as they were filled
pub table_empty : (m : List ℕ) (n t : ℕ) {ns : List ℕ} → is_graph m n t ≡ false → Selves clocks ns → (replicate clocks far ≡ distances (graph_of m n t)) × (ns ≡ nexts (graph_of m n t))
table_empty m n t {ns} e s =
    rw (graph_empty m n t e) (
      distances_is empty (replicate clocks far) (length-replicate clocks far) (λ c h. get_or-replicate clocks c far 0 h ∙ sym (outside empty c zero-le)),
      nexts_is empty ns s.room (λ c h. s.self c h ∙ sym (next_far empty c (outside empty c zero-le))),
    )

-- a graph: the arrays when a level is empty
pub table_done : (m : List ℕ) (n t : ℕ) {ds ns ls : List ℕ} {left : ℕ} {qs : List ℕ} {a b k : ℕ} → is_graph m n t ≡ true → State (held m n t) clocks ds ns ls left qs a b k → b ≤ a
    → (ds ≡ distances (graph_of m n t)) × (ns ≡ nexts (graph_of m n t))
table_done m n t {ds} {ns} e s h =
    rw (graph_held m n t e) (
      distances_is (held m n t) ds s.room_d (λ c l. (done s h c l).0),
      nexts_is (held m n t) ns s.room_n (λ c l. (done s h c l).1),
    )

-- the first c elements name themselves
pub record Named (ns : List ℕ) (c : ℕ) : Type 0 where
  pub upto : c ≤ clocks
  pub room : length ns ≡ clocks
  pub self : (i : ℕ) → i < c → get_or ns i 0 ≡ i

pub named_none : (ns : List ℕ) → length ns ≡ clocks → Named ns 0
named_none ns h = record { upto = zero-le; room = h; self = λ i l. absurd (omega arith) }

pub named_more : {ns : List ℕ} {c : ℕ} → Named ns c → c < clocks → Named (set ns c c) (c + 1)
named_more {ns} {c} f h = record {
  upto = omega arith;
  room = length-set ns c c ∙ f.room;
  self = below_more _ c (λ i l. get_or-set_other ns c i c 0 (λ q. omega arith) ∙ f.self i l) (get_or-set_same ns c c 0 (omega (arith, f.room)));
}

pub named_all : {ns : List ℕ} {c : ℕ} → Named ns c → clocks ≤ c → Selves clocks ns
named_all f h = record { room = f.room; self = λ i l. f.self i (omega arith) }
