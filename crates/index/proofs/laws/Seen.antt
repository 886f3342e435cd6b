-- What is seen of a value by its position alone is its view, where each known member is as its kind asks. Assumes nothing.
use Rattle.std.specs.Prelude.{◌≡◌, Bool, true, List, ◌∷◌, map, ℕ}
use Rattle.std.proofs.Math.Path.{refl, sym}
use Rattle.std.proofs.Common.{ap, subst, ◌∙◌, arith, ne_eqb}
use Rattle.text.specs.Reading.{Text, Out, done, bad, deep, pick}
use Rattle.text.specs.Class.{class_of, digit}
use Rattle.text.specs.Numbers.{number}
use Rattle.text.specs.laws.Readers.{pick_false}
use Rattle.grammar.specs.Tree.{Tree, null, bool, num, str, arr, obj, Members, get}
use Rattle.values.specs.Stands.{Stands}
use Rattle.values.specs.Integer.{none}
use Rattle.values.specs.Theorems.{string_stands}
use Rattle.values.specs.laws.Outs.{Stops}
use Rattle.values.specs.laws.Shapes.{Shape, array as an_array, object as an_object, text as a_text, yes_word, no_word, null_is, figure, no_number}
use Rattle.values.specs.laws.Standing.{shape_of}
use Rattle.places.specs.Places.{items_at, members_at, places_of, counted, member_at}
use Rattle.places.specs.Visits.{both_none, both_one, Hold}
use Rattle.places.specs.Theorems.{items_stand, member_stands}
use Rattle.manifest.specs.Kinds.{Kind, text, integer, free, array, object, Fields, end, field}
use Rattle.manifest.specs.View.{Cell, wrong, many, one, View, Row, rank, cell, as_text, as_free, as_integer, as_array, as_object, view, row}
use Rattle.manifest.specs.Statements.{All, all_none, all_one, Meets, left_out, stands, Sound, SoundRow}
use Rattle.manifest.proofs.laws.Members.{cell_one, cell_several}
use Rattle.index.specs.Index.{text_in, text_at, whole_in, whole_at, column, items_of, at}
use Rattle.index.proofs.laws.Positive.{items_positive, places_positive}

-- the view of a value of a kind, by its position
unfoldable mutual
  pub seen : (k : Kind) → Text → ℕ → Cell (View k)
  seen text s p = one (text_at s p)
  seen integer s p = as_integer (whole_at s p)
  seen free s p = one (whole_at s p)
  seen (array k) s p = one (map (λ q. seen k s q) (items_of s p))
  seen (object fs) s p = one (seen_row fs s p)

  pub seen_row : (fs : Fields) → Text → ℕ → Row fs
  seen_row end s p = tt
  seen_row (field n r k fs) s p = (at (column s p n) (seen k s (column s p n)), seen_row fs s p)

-- ---- which integer a value is

whole_none : (s : Text) (p : ℕ) → Stops (number s p) → whole_at s p ≡ none
unfolding whole_at whole_in
whole_none s p h = go (number s p) h
  where
    go : (o : Out Text) → Stops o → whole_in o ≡ none
    go (done cs j) f = absurd (f.never cs j refl)
    go (bad q) f = refl
    go (deep q) f = refl

whole_shape : (s : Text) (p : ℕ) {l n : ℕ} {t : Tree} → Shape s p l t n → whole_at s p ≡ as_free t
unfolding whole_at whole_in as_free digit class_of pick
whole_shape s p (an_array ts h e f) = whole_none s p (record { never = λ cs n g. no_number s p h refl g }) ∙ sym (ap as_free e)
whole_shape s p (an_object ms h e f) = whole_none s p (record { never = λ cs n g. no_number s p h refl g }) ∙ sym (ap as_free e)
whole_shape s p (a_text u h e f) = whole_none s p (record { never = λ cs n g. no_number s p h refl g }) ∙ sym (ap as_free e)
whole_shape s p (yes_word h e) = whole_none s p (record { never = λ cs n g. no_number s p h refl g }) ∙ sym (ap as_free e)
whole_shape s p (no_word h e) = whole_none s p (record { never = λ cs n g. no_number s p h refl g }) ∙ sym (ap as_free e)
whole_shape s p (null_is h e) = whole_none s p (record { never = λ cs n g. no_number s p h refl g }) ∙ sym (ap as_free e)
whole_shape s p (figure cs h e f) = ap whole_in f ∙ sym (ap as_free e)

pub whole_is : {s : Text} {p : ℕ} {t : Tree} → Stands s p t → whole_at s p ≡ as_free t
whole_is {s} {p} h = whole_shape s p (shape_of h)

pub text_is : {s : Text} {p : ℕ} {t : Text} → Stands s p (str t) → text_at s p ≡ t
unfolding text_at text_in
text_is h = ap text_in (string_stands h)

-- ---- cells

never_wrong : {A : Type 0} {P : A → Type 0} {r : Bool} {c : Cell A} → Meets P r c → c ≡ wrong → ⊥
never_wrong left_out e = let z : ◌≡◌ {A = ℕ} 0 1 = cc in omega arith
never_wrong (stands h) e = let z : ◌≡◌ {A = ℕ} 0 1 = cc in omega arith

never_many : {A : Type 0} {P : A → Type 0} {r : Bool} {c : Cell A} {i : ℕ} → Meets P r c → c ≡ many i → ⊥
never_many left_out e = let z : ◌≡◌ {A = ℕ} 0 1 = cc in omega arith
never_many (stands h) e = let z : ◌≡◌ {A = ℕ} 0 1 = cc in omega arith

one_meets : {A : Type 0} {P : A → Type 0} {r : Bool} {c : Cell A} {a : A} → Meets P r c → c ≡ one a → P a
one_meets left_out e = let z : ◌≡◌ {A = ℕ} 0 1 = cc in absurd (omega arith)
one_meets {P = P} {a = a} (stands {a = b} h) e = let q : b ≡ a = cc in subst P q h

module _ (k : Kind) (s : Text) (ih : (r : Bool) (p : ℕ) (t : Tree) → Stands s p t → (p ≡ 0 → ⊥) → Meets (λ w. Sound k w) r (view k t) → seen k s p ≡ view k t) where
  seen_cell : (r : Bool) {ps : List ℕ} {ts : List Tree} → Hold s ps ts → All (λ q. q ≡ 0 → ⊥) ps → Meets (λ w. Sound k w) r (cell (rank k) (view k) ts)
      → at (counted ps).at (seen k s (counted ps).at) ≡ cell (rank k) (view k) ts
  unfolding counted cell at pick
  seen_cell r both_none pos m = refl
  seen_cell r (both_one {x = p} {y = t} h both_none) (all_one q all_none) m =
      pick_false _ _ (ne_eqb p 0 q) ∙ (ih r p t h q (subst (λ c. Meets (λ w. Sound k w) r c) (cell_one k t) m) ∙ sym (cell_one k t))
  seen_cell r (both_one {y = t} h (both_one {y = u} {ys = l} g b)) pos m = absurd (never_many m (cell_several k t u l))

  seen_items : {ps : List ℕ} {ts : List Tree} → Hold s ps ts → All (λ q. q ≡ 0 → ⊥) ps → All (λ c. Meets (λ w. Sound k w) true c) (map (view k) ts)
      → map (seen k s) ps ≡ map (view k) ts
  seen_items both_none pos m = refl
  seen_items (both_one {x = p} {y = t} h b) (all_one q pos) (all_one a m) = λ i. ih true p t h q a i ∷ seen_items b pos m i

items_there : (s : Text) (p : ℕ) → (p ≡ 0 → ⊥) → items_of s p ≡ items_at s p
unfolding items_of
items_there s p n = pick_false _ _ (ne_eqb p 0 n)

pub column_there : (s : Text) (p : ℕ) (n : Text) → (p ≡ 0 → ⊥) → column s p n ≡ (counted (places_of n (members_at s p))).at
unfolding column member_at
column_there s p n h = pick_false _ _ (ne_eqb p 0 h)

-- ---- all kinds at once

mutual
  unfolding seen view as_text as_array as_object

  pub seen_is : (k : Kind) (r : Bool) {s : Text} {p : ℕ} {t : Tree} → Stands s p t → (p ≡ 0 → ⊥) → Meets (λ w. Sound k w) r (view k t) → seen k s p ≡ view k t
  seen_is text r {t = null} h n m = absurd (never_wrong m refl)
  seen_is text r {t = bool b} h n m = absurd (never_wrong m refl)
  seen_is text r {t = num cs} h n m = absurd (never_wrong m refl)
  seen_is text r {t = str u} h n m = ap one (text_is h)
  seen_is text r {t = arr ts} h n m = absurd (never_wrong m refl)
  seen_is text r {t = obj ms} h n m = absurd (never_wrong m refl)
  seen_is integer r h n m = ap as_integer (whole_is h)
  seen_is free r h n m = ap one (whole_is h)
  seen_is (array k) r {t = null} h n m = absurd (never_wrong m refl)
  seen_is (array k) r {t = bool b} h n m = absurd (never_wrong m refl)
  seen_is (array k) r {t = num cs} h n m = absurd (never_wrong m refl)
  seen_is (array k) r {t = str u} h n m = absurd (never_wrong m refl)
  seen_is (array k) r {s} {p} {t = arr ts} h n m =
      ap (λ (l : List ℕ). one (map (λ q. seen k s q) l)) (items_there s p n)
      ∙ ap one (seen_items k s (λ r' q u a b c. seen_is k r' a b c) (items_stand h) (items_positive s p) (one_meets m refl))
  seen_is (array k) r {t = obj ms} h n m = absurd (never_wrong m refl)
  seen_is (object fs) r {t = null} h n m = absurd (never_wrong m refl)
  seen_is (object fs) r {t = bool b} h n m = absurd (never_wrong m refl)
  seen_is (object fs) r {t = num cs} h n m = absurd (never_wrong m refl)
  seen_is (object fs) r {t = str u} h n m = absurd (never_wrong m refl)
  seen_is (object fs) r {t = arr ts} h n m = absurd (never_wrong m refl)
  seen_is (object fs) r {t = obj ms} h n m = ap one (seen_row_lem fs h n (one_meets m refl))

  pub seen_row_lem : (fs : Fields) {s : Text} {p : ℕ} {ms : Members} → Stands s p (obj ms) → (p ≡ 0 → ⊥) → SoundRow fs (row fs ms) → seen_row fs s p ≡ row fs ms
  seen_row_lem end h z m = refl
  seen_row_lem (field n r k fs) {s} {p} {ms} h z m =
      let a : at (column s p n) (seen k s (column s p n)) ≡ cell (rank k) (view k) (get n ms) =
      ap (λ (q : ℕ). at q (seen k s q)) (column_there s p n z)
      ∙ seen_cell k s (λ r' q u x y w. seen_is k r' x y w) r (member_stands h n) (places_positive s p n) m.0 in
      let b : seen_row fs s p ≡ row fs ms = seen_row_lem fs h z m.1 in
      λ i. (a i, b i)
