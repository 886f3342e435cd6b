-- Where a value stands its type is told by its kind, and a number's by what it is as an integer. Assumes nothing.
use Rattle.std.specs.Prelude.{◌≡◌, refl, Bool, true, false, ℕ}
use Rattle.std.proofs.Common.{sym, ap, ◌∙◌}
use Rattle.std.specs.Int.Signed.{lt_z}
use Rattle.text.specs.Reading.{Text, pick}
use Rattle.grammar.specs.Tree.{Tree, null, bool, num, str, arr, obj}
use Rattle.values.specs.declared.Kind.{Kind}
use Rattle.values.specs.declared.Integer.{Integer}
use Rattle.values.specs.declared.Integer.TheVariants.{In, Below, Above}
use Rattle.values.specs.Integer.{Whole, whole, none, ranged, integer, integer_at, integer_of}
use Rattle.values.specs.Stands.{Stands, kind_of, kind_at as kindThere}
use Rattle.values.specs.Theorems.{kind_stands, integer_stands}
use Rattle.manifest.proofs.laws.Judge.{tag_number, tag}
use Rattle.table.specs.Table.{tag_of_number, tag_of, tag_at}

number_is : (w : Whole) → tag_of_number (ranged w) ≡ tag_number w
unfolding ranged tag_number tag_of_number pick
number_is (whole z) = go (lt_z z _) (lt_z z _)
  where
    go : (a b : Bool) → tag_of_number (pick a Below (pick b (In z) Above)) ≡ 3
    go true b = refl
    go false true = refl
    go false false = refl
number_is none = refl

type_is : (t : Tree) → tag_of (kind_of t) (integer_of t) ≡ tag t
unfolding kind_of integer_of tag_of tag
type_is null = refl
type_is (bool b) = refl
type_is (num cs) = number_is (integer cs)
type_is (str s) = refl
type_is (arr ts) = refl
type_is (obj ms) = refl

-- a value's type
pub tag_told : {s : Text} {p r : ℕ} → r ≡ tag_at s p → (t : Tree) → Stands s p t → r ≡ tag t
unfolding tag_at
tag_told e t h =
    let k = kind_stands h in
    let n = integer_stands h in
    e ∙ (λ i. tag_of (k i) (n i)) ∙ type_is t

-- by the kind that was found, and the integer
pub tag_by : (s : Text) (p : ℕ) {k d : Kind} {r : ℕ} → k ≡ kindThere s p → k ≡ d → r ≡ tag_of d (integer_at s p) → r ≡ tag_at s p
unfolding tag_at
tag_by s p ek e h = h ∙ ap (λ (q : Kind). tag_of q (integer_at s p)) (sym e ∙ ek)

pub number_by : {n m d : Integer} {r : ℕ} → n ≡ m → n ≡ d → r ≡ tag_of_number d → r ≡ tag_of_number m
number_by en e h = h ∙ ap tag_of_number (sym e ∙ en)
