-- The graph of a matrix, by cases.
use Rattle.std.specs.Prelude.{ℕ, ◌*◌, ◌≤◌, ◌<◌, Bool, cond, ◌&&◌, ◌≡◌, List, leb, eqb, length}
use Rattle.std.proofs.Common.{zero-le}
use Rattle.std.proofs.Math.Bool.{true, false}
use Rattle.std.proofs.Math.Path.{refl}
use Rattle.std.proofs.Math.Dec.{ltb}
use borrow.Author.Tests.{eqb-true, leb-true, ltb-true, eq-eqb, le-leb, lt-ltb}
use Rattle.numbers.specs.Numbers.{clocks}
use Rattle.paths.specs.Matrix.{far, is_graph, held, empty, graph_of}
use Rattle.paths.specs.laws.Least.{and_left, and_right, and_both}

-- what `is_graph` tests
pub record Whole (m : List ℕ) (n t : ℕ) : Type 0 where
  pub small : n ≤ clocks
  pub square : length m ≡ n * n
  pub goal : t < n

module _ (m : List ℕ) (n t : ℕ) where
  pub graph_whole : is_graph m n t ≡ true → Whole m n t
  unfolding is_graph
  graph_whole e =
      let b = and_right (leb n clocks) (eqb (length m) (n * n) && ltb t n) e in record {
        small = leb-true n clocks (and_left (leb n clocks) (eqb (length m) (n * n) && ltb t n) e);
        square = eqb-true (length m) (n * n) (and_left (eqb (length m) (n * n)) (ltb t n) b);
        goal = ltb-true t n (and_right (eqb (length m) (n * n)) (ltb t n) b);
      }

  pub whole_graph : Whole m n t → is_graph m n t ≡ true
  unfolding is_graph
  whole_graph w = and_both _ _ (le-leb n clocks w.small) (and_both _ _ (eq-eqb (length m) (n * n) w.square) (lt-ltb t n w.goal))

  pub graph_held : is_graph m n t ≡ true → graph_of m n t ≡ held m n t
  unfolding graph_of
  graph_held e = rw e

  pub graph_empty : is_graph m n t ≡ false → graph_of m n t ≡ empty
  unfolding graph_of
  graph_empty e = rw e

  pub graph_far : (graph_of m n t).far ≡ far
  unfolding graph_of
  graph_far = elim (is_graph m n t) as (λ b. (cond b (held m n t) empty).far ≡ far) [ true ↦ refl | false ↦ refl ]

  pub graph_small : (graph_of m n t).size ≤ clocks
  graph_small = go (is_graph m n t) refl
    where
      go : (b : Bool) → is_graph m n t ≡ b → (graph_of m n t).size ≤ clocks
      go true e = rw (graph_held e) (graph_whole e).small
      go false e = rw (graph_empty e) zero-le
