-- A walk over the table's lines at an object: what the code's one loop for 8 and 9 cites at each line, in the code's own values.
use Rattle.std.specs.Prelude.{◌≡◌, Bool, false, ◌||◌, List, [], ◌∷◌, ℕ}
use Rattle.std.proofs.Math.Path.{refl, ap}
use Rattle.std.proofs.Common.{◌∙◌, eq-eqb, ne_eqb}
use Rattle.text.specs.Reading.{pick}
use Rattle.grammar.specs.Tree.{Tree, obj, Members, get}
use Rattle.manifest.specs.Kinds.{Kind, object, Fields, field}
use Rattle.manifest.specs.View.{row}
use Rattle.manifest.specs.Rules.{Look, missing, repeated, fine, somewhere, across}
use Rattle.manifest.proofs.laws.Judge.{judged, judged_object, member_none, member_one, member_several}
use Rattle.manifest.proofs.laws.Table.{Line, lines, kind_at, fields_at}

module _ (test : Bool → Look → Bool) (p : ℕ) (ms : Members) where
  -- what the lines ls say of an object of place p with the members ms
  unfoldable pub said : Fields → Bool
  said fs = across test fs (row fs ms)

  abbrev pub from : List Line → Bool
  from ls = said (fields_at p ls)

  pub from_end : from [] ≡ false
  unfolding said fields_at somewhere
  from_end = refl

  module _ (l : Line) (ls : List Line) where
    pub other_place : (l.place ≡ p → ⊥) → from (l ∷ ls) ≡ from ls
    unfolding fields_at pick
    other_place h = ap (λ (b : Bool). said (pick b (field l.name l.asked (kind_at l.kind) (fields_at p ls)) (fields_at p ls))) (ne_eqb l.place p h)

    module _ (h : l.place ≡ p) where
      this_place : from (l ∷ ls) ≡ said (field l.name l.asked (kind_at l.kind) (fields_at p ls))
      unfolding fields_at pick
      this_place = ap (λ (b : Bool). said (pick b (field l.name l.asked (kind_at l.kind) (fields_at p ls)) (fields_at p ls))) (eq-eqb l.place p h)

      pub no_member : get l.name ms ≡ [] → from (l ∷ ls) ≡ ((test l.asked missing || false) || from ls)
      unfolding said
      no_member e = this_place ∙ member_none test l.name l.asked (kind_at l.kind) (fields_at p ls) ms e

      pub one_value : {t : Tree} → get l.name ms ≡ t ∷ [] → from (l ∷ ls) ≡ (judged test l.asked (kind_at l.kind) t || from ls)
      unfolding said
      one_value e = this_place ∙ member_one test l.name l.asked (kind_at l.kind) (fields_at p ls) ms e

      pub more_values : {t u : Tree} {us : List Tree} → get l.name ms ≡ t ∷ (u ∷ us) → from (l ∷ ls) ≡ ((test l.asked repeated || false) || from ls)
      unfolding said
      more_values e = this_place ∙ member_several test l.name l.asked (kind_at l.kind) (fields_at p ls) ms e

  -- the loop's start: an object of a place is judged by all lines
  pub from_all : (r : Bool) → kind_at p ≡ object (fields_at p lines) → judged test r (kind_at p) (obj ms) ≡ (test r fine || from lines)
  unfolding said
  from_all r e = ap (λ (k : Kind). judged test r k (obj ms)) e ∙ judged_object test r (fields_at p lines) ms
