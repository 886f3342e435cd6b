-- The lines of the table of known members by their numbers, which line is about a member, and the JSON type of the value at a position by a number. Assumes nothing.
use Rattle.std.specs.Prelude.{◌≡◌, true, false, List, [], ◌∷◌, ℕ, suc, ◌<◌, ◌≤◌, eqb, ltb, get_or}
use Rattle.text.specs.Reading.{Text, pick}
use Rattle.values.specs.declared.Kind.{Kind}
use Rattle.values.specs.declared.Kind.TheVariants.{Nothing, Null, Truth, Number, String, Array, Object}
use Rattle.values.specs.declared.Integer.{Integer}
use Rattle.values.specs.declared.Integer.TheVariants.{In, Below, Above, None}
use Rattle.values.specs.Integer.{integer_at}
use Rattle.values.specs.Strings.{same_as}
use Rattle.values.specs.Stands.{kind_at as kindThere}
use Rattle.manifest.proofs.laws.Table.{Line, lines}

-- past the last line
abbrev pub no_line : Line
no_line = record { place = 0; name = []; asked = false; kind = 0 }

-- the line of the table with a number
unfoldable pub line_at : ℕ → Line
line_at j = get_or lines j no_line

-- the kind of the value of a member, by its line; any value where no line is about it
unfoldable pub value_kind : ℕ → ℕ
value_kind j = pick (ltb j 20) (line_at j).kind 2

-- how many lines are about objects of a smaller kind: the lines are in the order of the objects' kinds, so this is the first line about an object of the kind
unfoldable pub lines_before : ℕ → List Line → ℕ
lines_before k [] = 0
lines_before k (l ∷ ls) = pick (ltb l.place k) (suc (lines_before k ls)) (lines_before k ls)

unfoldable pub first_line : ℕ → ℕ
first_line k = lines_before k lines

-- j is the line about objects of kind o whose name is the string at p, or 20 if there is none. No other line is, so there is one such j (`line_one`)
pub record LineAt (o : ℕ) (s : Text) (p j : ℕ) : Type 0 where
  pub few : j ≤ 20
  pub about : j < 20 → ((line_at j).place ≡ o) × (same_as s p (line_at j).name ≡ true)
  pub others : (i : ℕ) → i < 20 → (i ≡ j → ⊥) → (line_at i).place ≡ o → same_as s p (line_at i).name ≡ false

-- ---- types

-- the JSON type of a value of a kind, but of a free one: 0 null or none, 1 true or false, 2 a string, 3 an integer, 4 another number, 5 an array, 6 an object
unfoldable pub wanted_of : ℕ → ℕ
wanted_of k = pick (eqb k 0) 2 (pick (eqb k 1) 3 (pick (eqb k 7) 5 (pick (eqb k 9) 5 6)))

-- the type of a number, by what it is as an integer
unfoldable pub tag_of_number : Integer → ℕ
tag_of_number (In z) = 3
tag_of_number Below = 3
tag_of_number Above = 3
tag_of_number None = 4

unfoldable pub tag_of : Kind → Integer → ℕ
tag_of Nothing n = 0
tag_of Null n = 0
tag_of Truth n = 1
tag_of Number n = tag_of_number n
tag_of String n = 2
tag_of Array n = 5
tag_of Object n = 6

-- the type of the value at p
unfoldable pub tag_at : Text → ℕ → ℕ
tag_at s p = tag_of (kindThere s p) (integer_at s p)
