-- What the rules see of a manifest: of each known object a row, with a cell for each known name in the table's order. Objects are known by
-- their place. Unknown members are not in a row, nor is any order of members. All refusals from 5 on and the meaning are functions of it.
-- Assumes nothing.
use Rattle.std.specs.Prelude.{Bool, false, List, [], ◌∷◌, map, ℕ, min, eqb, ℤ, pos, negsuc}
use Rattle.text.specs.Reading.{Text, pick}
use Rattle.grammar.specs.Tree.{Tree, null, bool, num, str, arr, obj, Members, list_of_trees, get}
use Rattle.values.specs.Integer.{Whole, whole, none, integer as integer_of}
use Rattle.manifest.specs.Kinds.{Kind, text, integer, free, array, object, Fields, end, field}

-- What stands under a name: nothing, one value of a wrong type, several members, or one value of its type.
-- Of several members one number is kept, which no order of them changes: see `rank`
pub data Cell (A : Type 0) : Type 0 where
  absent : Cell A
  wrong : Cell A
  many : ℕ → Cell A
  one : A → Cell A

-- what is seen of a value of a kind; of a free value only which integer it is, if it is one
abbrev mutual
  pub View : Kind → Type 0
  View text = Text
  View integer = ℤ
  View free = Whole
  View (array k) = List (Cell (View k))
  View (object fs) = Row fs

  pub Row : Fields → Type 0
  Row end = Unit {0}
  Row (field n r k fs) = Cell (View k) × Row fs

-- ---- several members with one name

unfoldable pub is_one : Whole → Bool
is_one (whole (pos n)) = eqb n 1
is_one (whole (negsuc n)) = false
is_one none = false

-- What is kept of repeated members is the least of their ranks. Only of `version` a rule asks more than that it is repeated (7, which
-- comes before 8): 1 if it is the integer 1, else 0
unfoldable pub rank : (k : Kind) → View k → ℕ
rank text v = 0
rank integer v = 0
rank free v = pick (is_one v) 1 0
rank (array k) v = 0
rank (object fs) v = 0

unfoldable pub rank_of : {A : Type 0} → (A → ℕ) → Cell A → ℕ
rank_of r absent = 0
rank_of r wrong = 0
rank_of r (many i) = i
rank_of r (one a) = r a

-- something, and a further member with the same name
unfoldable pub beside : {A : Type 0} → (A → ℕ) → Cell A → Cell A → Cell A
beside r c absent = c
beside r c wrong = many (min (rank_of r c) 0)
beside r c (many i) = many (min (rank_of r c) i)
beside r c (one a) = many (min (rank_of r c) (r a))

unfoldable pub join : {A : Type 0} → (A → ℕ) → Cell A → Cell A → Cell A
join r absent d = d
join r wrong d = beside r wrong d
join r (many i) d = beside r (many i) d
join r (one a) d = beside r (one a) d

-- the cell of all values that stand under one name
unfoldable pub cell : {A : Type 0} → (A → ℕ) → (Tree → Cell A) → List Tree → Cell A
cell r f [] = absent
cell r f (t ∷ ts) = join r (f t) (cell r f ts)

-- ---- one value

unfoldable pub as_text : Tree → Cell Text
as_text null = wrong
as_text (bool b) = wrong
as_text (num cs) = wrong
as_text (str s) = one s
as_text (arr ts) = wrong
as_text (obj ms) = wrong

-- which integer a value is, if it is one
unfoldable pub as_free : Tree → Whole
as_free null = none
as_free (bool b) = none
as_free (num cs) = integer_of cs
as_free (str s) = none
as_free (arr ts) = none
as_free (obj ms) = none

unfoldable pub as_integer : Whole → Cell ℤ
as_integer (whole z) = one z
as_integer none = wrong

unfoldable pub as_array : {A : Type 0} → (Tree → A) → Tree → Cell (List A)
as_array f null = wrong
as_array f (bool b) = wrong
as_array f (num cs) = wrong
as_array f (str s) = wrong
as_array f (arr ts) = one (map f (list_of_trees ts))
as_array f (obj ms) = wrong

unfoldable pub as_object : {A : Type 0} → (Members → A) → Tree → Cell A
as_object f null = wrong
as_object f (bool b) = wrong
as_object f (num cs) = wrong
as_object f (str s) = wrong
as_object f (arr ts) = wrong
as_object f (obj ms) = one (f ms)

-- a value where one of kind k has to stand. `null` is of a wrong type, not absent
unfoldable mutual
  pub view : (k : Kind) → Tree → Cell (View k)
  view text t = as_text t
  view integer t = as_integer (as_free t)
  view free t = one (as_free t)
  view (array k) t = as_array (λ u. view k u) t
  view (object fs) t = as_object (λ ms. row fs ms) t

  -- the known members of an object
  pub row : (fs : Fields) → Members → Row fs
  row end ms = tt
  row (field n r k fs) ms = (cell (rank k) (λ t. view k t) (get n ms), row fs ms)
