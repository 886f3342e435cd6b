-- Laws of cells: no order of the members with one name matters.
use Rattle.std.specs.Prelude.{◌≡◌, Bool, List, ◌∷◌}
use Rattle.std.proofs.Math.Path.{refl, sym, ap}
use Rattle.std.proofs.Common.{◌∙◌}
use Rattle.std.proofs.Math.Bool.{true, false}
use Prim.Native.Nat.{ℕ, min}
use native.Mathlib.Omega.{arith}
use Rattle.text.specs.Reading.{pick}
use Rattle.grammar.specs.Tree.{Tree}
use Rattle.manifest.specs.View.{Cell, absent, wrong, many, one, rank_of, beside, join, cell}

-- a cell in which something stands
pub data Full {A : Type 0} : Cell A → Type 0 where
  is_wrong : Full wrong
  is_many : {i : ℕ} → Full (many i)
  is_one : {a : A} → Full (one a)

module _ {A : Type 0} (r : A → ℕ) where
  pub join_absent : (c : Cell A) → join r c absent ≡ c
  unfolding join beside
  join_absent absent = refl
  join_absent wrong = refl
  join_absent (many i) = refl
  join_absent (one a) = refl

  pub join_full : {c d : Cell A} → Full c → Full d → join r c d ≡ many (min (rank_of r c) (rank_of r d))
  unfolding join beside rank_of
  join_full is_wrong is_wrong = refl
  join_full is_wrong is_many = refl
  join_full is_wrong is_one = refl
  join_full is_many is_wrong = refl
  join_full is_many is_many = refl
  join_full is_many is_one = refl
  join_full is_one is_wrong = refl
  join_full is_one is_many = refl
  join_full is_one is_one = refl

  three : {b c d : Cell A} → Full b → Full c → Full d → join r b (join r c d) ≡ join r c (join r b d)
  unfolding rank_of
  three {b} {c} {d} x y z =
      let e : min (rank_of r b) (min (rank_of r c) (rank_of r d)) ≡ min (rank_of r c) (min (rank_of r b) (rank_of r d)) = omega arith in
      ap (join r b) (join_full y z) ∙ (join_full x is_many ∙ (ap many e ∙ sym (ap (join r c) (join_full x z) ∙ join_full y is_many)))

  two : {b c : Cell A} → Full b → Full c → (d : Cell A) → join r b (join r c d) ≡ join r c (join r b d)
  two {b} {c} x y absent =
      let e : min (rank_of r b) (rank_of r c) ≡ min (rank_of r c) (rank_of r b) = omega arith in
      ap (join r b) (join_absent c) ∙ (join_full x y ∙ (ap many e ∙ sym (ap (join r c) (join_absent b) ∙ join_full y x)))
  two x y wrong = three x y is_wrong
  two x y (many i) = three x y is_many
  two x y (one a) = three x y is_one

  beside_any : {b : Cell A} → Full b → (c d : Cell A) → join r b (join r c d) ≡ join r c (join r b d)
  unfolding join
  beside_any x absent d = refl
  beside_any x wrong d = two x is_wrong d
  beside_any x (many i) d = two x is_many d
  beside_any x (one a) d = two x is_one d

  pub join_swap : (b c d : Cell A) → join r b (join r c d) ≡ join r c (join r b d)
  unfolding join
  join_swap absent c d = refl
  join_swap wrong c d = beside_any is_wrong c d
  join_swap (many i) c d = beside_any is_many c d
  join_swap (one a) c d = beside_any is_one c d

  -- two neighbours, each of them under this name or not
  pub cell_swap : (f : Tree → Cell A) (a b : Bool) (t u : Tree) (l : List Tree)
      → cell r f (pick a (t ∷ pick b (u ∷ l) l) (pick b (u ∷ l) l)) ≡ cell r f (pick b (u ∷ pick a (t ∷ l) l) (pick a (t ∷ l) l))
  unfolding cell pick
  cell_swap f true true t u l = join_swap (f t) (f u) (cell r f l)
  cell_swap f true false t u l = refl
  cell_swap f false true t u l = refl
  cell_swap f false false t u l = refl

  -- a value that looks the same, before values that look the same
  pub cell_keep : (f : Tree → Cell A) (t u : Tree) (l m : List Tree) → f t ≡ f u → cell r f l ≡ cell r f m → cell r f (t ∷ l) ≡ cell r f (u ∷ m)
  unfolding cell
  cell_keep f t u l m e h = λ i. join r (e i) (h i)
