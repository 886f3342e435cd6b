-- The tree that a JSON text writes: strings and names after unescaping, numbers as their characters, members in order with repetitions.
-- Assumes nothing.
use Rattle.std.specs.Prelude.{Bool, true, false, List, [], ◌∷◌, eqb}
use Rattle.text.specs.Reading.{Text, pick}

-- (antt has no data type that stands within List, so Trees and Members are lists of their own)
mutual
  pub data Tree : Type 0 where
    null : Tree
    bool : Bool → Tree
    num : Text → Tree
    str : Text → Tree
    arr : Trees → Tree
    obj : Members → Tree

  pub data Trees : Type 0 where
    no_trees : Trees
    one_tree : Tree → Trees → Trees

  pub data Members : Type 0 where
    no_members : Members
    one_member : Text → Tree → Members → Members

-- a list of values, or of names with values, as the items of an array or the members of an object
abbrev pub trees : List Tree → Trees
trees [] = no_trees
trees (t ∷ ts) = one_tree t (trees ts)

abbrev pub members : List (Text × Tree) → Members
members [] = no_members
members (m ∷ ms) = one_member m.0 m.1 (members ms)

-- the items of an array
unfoldable pub list_of_trees : Trees → List Tree
list_of_trees no_trees = []
list_of_trees (one_tree t ts) = t ∷ list_of_trees ts

-- two texts are the same bytes
unfoldable pub same : Text → Text → Bool
same [] [] = true
same [] (b ∷ u) = false
same (a ∷ t) [] = false
same (a ∷ t) (b ∷ u) = pick (eqb a b) (same t u) false

-- the values of the members with a name, in the order of the text
unfoldable pub get : Text → Members → List Tree
get n no_members = []
get n (one_member k t ms) = pick (same k n) (t ∷ get n ms) (get n ms)
