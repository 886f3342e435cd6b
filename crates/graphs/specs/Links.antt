-- Correspondences between clocks, and the list that a pair of clocks keeps. Assumes nothing.
use Rattle.std.specs.Prelude.{cond, ◌&&◌, List, [], ◌∷◌, ℕ, eqb, ℤ}
use Rattle.whole.specs.Pairs.{Pair}

-- where clock a reads x, clock b reads y
pub record Link : Type 0 where
  pub a : ℕ
  pub x : ℤ
  pub b : ℕ
  pub y : ℤ

-- the correspondences of four lists, as far as all four go: where clock a_k reads x_k, clock b_k reads y_k
unfoldable pub links_of : List ℕ → List ℤ → List ℕ → List ℤ → List Link
links_of [] xs bs ys = []
links_of (a ∷ fs) [] bs ys = []
links_of (a ∷ fs) (x ∷ xs) [] ys = []
links_of (a ∷ fs) (x ∷ xs) (b ∷ bs) [] = []
links_of (a ∷ fs) (x ∷ xs) (b ∷ bs) (y ∷ ys) = record { a = a; x = x; b = b; y = y } ∷ links_of fs xs bs ys

-- "Manifest entries give the correspondence (0, offset), in entry order; then come snapshots in sheet order. A pair of clocks keeps one list":
-- the correspondences of clocks c and d in their order, each seen from c. This alone picks a pair's list
unfoldable pub list_of : List Link → ℕ → ℕ → List Pair
list_of [] c d = []
list_of (l ∷ ls) c d =
    cond (eqb l.a c && eqb l.b d) (record { x = l.x; y = l.y } ∷ list_of ls c d)
    (cond (eqb l.a d && eqb l.b c) (record { x = l.y; y = l.x } ∷ list_of ls c d)
    (list_of ls c d))
