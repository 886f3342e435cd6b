-- What code that looks for 8 and 9 in the text cites: a member at a time, by how many values `get` finds; a value by its JSON type. Assumes nothing.
use Rattle.std.proofs.Math.Path.{◌≡◌, refl, ap}
use Rattle.std.proofs.Common.{sym, ◌∙◌, arith}
use Rattle.std.specs.Prelude.{Bool, ◌||◌, List, [], ◌∷◌, map, ℕ, eqb}
use Rattle.std.proofs.Math.Bool.{true, false}
use Rattle.text.specs.Reading.{Text, pick}
use Rattle.grammar.specs.Tree.{Tree, null, bool, num, str, arr, obj, Trees, Members, list_of_trees, get}
use Rattle.values.specs.Integer.{Whole, whole, none, integer as integer_of}
use Rattle.manifest.specs.Kinds.{Kind, text, integer, free, array, object, Fields, field}
use Rattle.manifest.specs.View.{Cell, absent, wrong, many, one, View, rank, cell, as_text, as_integer, as_free, as_array, as_object, view, row}
use Rattle.manifest.specs.Rows.{holds, any}
use Rattle.manifest.specs.Rules.{Look, missing, mistyped, repeated, fine, look, somewhere, across}
use Rattle.manifest.proofs.laws.Members.{cell_none, cell_one, cell_several}

-- a value's JSON type as a number; an integer and another number are two
unfoldable pub tag_number : Whole → ℕ
tag_number (whole z) = 3
tag_number none = 4

unfoldable pub tag : Tree → ℕ
tag null = 0
tag (bool b) = 1
tag (str s) = 2
tag (num cs) = tag_number (integer_of cs)
tag (arr ts) = 5
tag (obj ms) = 6

-- whether a type fits a kind
unfoldable pub fits : Kind → ℕ → Bool
fits text n = eqb n 2
fits integer n = eqb n 3
fits free n = true
fits (array k) n = eqb n 5
fits (object fs) n = eqb n 6

-- a value, judged where a member or an item of kind k stands
unfoldable pub judged : (test : Bool → Look → Bool) → Bool → (k : Kind) → Tree → Bool
judged test r k t = test r (look (view k t)) || holds (somewhere test k) (view k t)

look_number : (w : Whole) → look (as_integer w) ≡ pick (eqb (tag_number w) 3) fine mistyped
unfolding as_integer look pick tag_number
look_number (whole z) = refl
look_number none = refl

-- a number, an integer or not, is no text, array or object
pub not_a_text : (w : Whole) → eqb (tag_number w) 2 ≡ false
unfolding tag_number
not_a_text (whole z) = refl
not_a_text none = refl

pub not_an_array : (w : Whole) → eqb (tag_number w) 5 ≡ false
unfolding tag_number
not_an_array (whole z) = refl
not_an_array none = refl

pub not_an_object : (w : Whole) → eqb (tag_number w) 6 ≡ false
unfolding tag_number
not_an_object (whole z) = refl
not_an_object none = refl

number_mistyped : {b : Bool} → b ≡ false → mistyped ≡ pick b fine mistyped
unfolding pick
number_mistyped e = sym (ap (λ (c : Bool). pick c fine mistyped) e)

pub look_is : (k : Kind) (t : Tree) → look (view k t) ≡ pick (fits k (tag t)) fine mistyped
unfolding view as_text as_integer as_free as_array as_object look pick fits tag
look_is text null = refl
look_is text (bool b) = refl
look_is text (num cs) = number_mistyped (not_a_text (integer_of cs))
look_is text (str s) = refl
look_is text (arr ts) = refl
look_is text (obj ms) = refl
look_is integer null = refl
look_is integer (bool b) = refl
look_is integer (num cs) = look_number (integer_of cs)
look_is integer (str s) = refl
look_is integer (arr ts) = refl
look_is integer (obj ms) = refl
look_is free t = refl
look_is (array k) null = refl
look_is (array k) (bool b) = refl
look_is (array k) (num cs) = number_mistyped (not_an_array (integer_of cs))
look_is (array k) (str s) = refl
look_is (array k) (arr ts) = refl
look_is (array k) (obj ms) = refl
look_is (object fs) null = refl
look_is (object fs) (bool b) = refl
look_is (object fs) (num cs) = number_mistyped (not_an_object (integer_of cs))
look_is (object fs) (str s) = refl
look_is (object fs) (arr ts) = refl
look_is (object fs) (obj ms) = refl

any_map : {A B : Type 0} (p : B → Bool) (f : A → B) (l : List A) → any p (map f l) ≡ any (λ a. p (f a)) l
unfolding any
any_map p f [] = refl
any_map p f (a ∷ l) = ap (λ (b : Bool). p (f a) || b) (any_map p f l)

module _ (test : Bool → Look → Bool) (r : Bool) where
  -- a value of a wrong type: nothing below it is looked at
  pub judged_wrong : (k : Kind) (t : Tree) → fits k (tag t) ≡ false → judged test r k t ≡ (test r mistyped || false)
  unfolding judged look holds pick
  judged_wrong k t e = go (view k t) (look_is k t ∙ ap (λ (b : Bool). pick b fine mistyped) e)
    where
      go : (c : Cell (View k)) → look c ≡ pick false fine mistyped → (test r (look c) || holds (somewhere test k) c) ≡ (test r mistyped || false)
      go absent q = let z : ◌≡◌ {A = ℕ} 0 1 = cc in absurd (omega arith)
      go wrong q = refl
      go (many i) q = let z : ◌≡◌ {A = ℕ} 0 1 = cc in absurd (omega arith)
      go (one v) q = let z : ◌≡◌ {A = ℕ} 0 1 = cc in absurd (omega arith)

  -- the members of an object, the items of an array
  pub judged_object : (fs : Fields) (ms : Members) → judged test r (object fs) (obj ms) ≡ (test r fine || across test fs (row fs ms))
  unfolding judged view as_object look holds somewhere
  judged_object fs ms = refl

  pub judged_array : (k : Kind) (ts : Trees) → judged test r (array k) (arr ts) ≡ (test r fine || any (judged test true k) (list_of_trees ts))
  unfolding judged view as_array look holds somewhere
  judged_array k ts = ap (λ (b : Bool). test r fine || b) (any_map (λ c. test true (look c) || holds (λ w. somewhere test k w) c) (λ t. view k t) (list_of_trees ts))

-- one member more, in the order of the table: what it adds, by what `get` finds
module _ (test : Bool → Look → Bool) (n : Text) (r : Bool) (k : Kind) (fs : Fields) (ms : Members) where
  step : {c : Cell (View k)} → cell (rank k) (view k) (get n ms) ≡ c → across test (field n r k fs) (row (field n r k fs) ms) ≡ ((test r (look c) || holds (somewhere test k) c) || across test fs (row fs ms))
  unfolding somewhere view
  step e = ap (λ (c : Cell (View k)). (test r (look c) || holds (somewhere test k) c) || across test fs (row fs ms)) e

  pub member_none : get n ms ≡ [] → across test (field n r k fs) (row (field n r k fs) ms) ≡ ((test r missing || false) || across test fs (row fs ms))
  unfolding look holds
  member_none e = step (ap (cell (rank k) (view k)) e ∙ cell_none k)

  pub member_one : {t : Tree} → get n ms ≡ t ∷ [] → across test (field n r k fs) (row (field n r k fs) ms) ≡ (judged test r k t || across test fs (row fs ms))
  unfolding judged
  member_one {t} e = step (ap (cell (rank k) (view k)) e ∙ cell_one k t)

  pub member_several : {t u : Tree} {l : List Tree} → get n ms ≡ t ∷ (u ∷ l) → across test (field n r k fs) (row (field n r k fs) ms) ≡ ((test r repeated || false) || across test fs (row fs ms))
  unfolding look holds
  member_several {t} {u} {l} e = step (ap (cell (rank k) (view k)) e ∙ cell_several k t u l)
