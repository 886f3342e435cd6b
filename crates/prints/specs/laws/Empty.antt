-- A text that is known to be empty, or not, compared with another: by the length, or by the strings. Assumes nothing.
use Rattle.std.specs.Prelude.{◌≡◌, refl, Bool, true, false, [], ◌∷◌, ℕ, eqb, length}
use Rattle.std.proofs.Common.{sym, ap, ◌∙◌, arith, eq-eqb, ne_eqb, eqb-true}
use Rattle.std.proofs.lemmas.Bool.{eqb-false}
use Rattle.text.specs.Reading.{Text, Out, done, bad, deep}
use Rattle.text.specs.Strings.{string}
use Rattle.grammar.specs.Tree.{same}
use Rattle.values.specs.Strings.{is_text, both_text, same_texts}
use Rattle.index.specs.Index.{text_in, text_at}

-- with an empty text another is the same if it is empty too
empty_is : (t u : Text) → length t ≡ 0 → eqb (length u) 0 ≡ same t u
unfolding same
empty_is [] [] h = eq-eqb 0 0 refl
empty_is [] (b ∷ u) h = ne_eqb (length (b ∷ u)) 0 (omega arith)
empty_is (a ∷ t) u h = absurd (omega arith)

none_is : (t : Text) → (length t ≡ 0 → ⊥) → false ≡ same t []
unfolding same
none_is [] h = absurd (h refl)
none_is (a ∷ t) h = refl

-- a text that is not empty is a string's
pub string_is : (o q : Out Text) → (length (text_in q) ≡ 0 → ⊥) → both_text o q ≡ same (text_in q) (text_in o)
unfolding both_text text_in is_text
string_is (done t j) (done u k) h = refl
string_is (done t j) (bad k) h = absurd (h refl)
string_is (done t j) (deep k) h = absurd (h refl)
string_is (bad j) q h = none_is (text_in q) h
string_is (deep j) q h = none_is (text_in q) h

module _ (s : Text) (p q : ℕ) {e : Bool} (tells : e ≡ eqb (length (text_at s p)) 0) where
  pub same_empty : e ≡ true → {n : ℕ} → n ≡ length (text_at s q) → eqb n 0 ≡ same (text_at s p) (text_at s q)
  same_empty h f = ap (λ (n : ℕ). eqb n 0) f ∙ empty_is (text_at s p) (text_at s q) (eqb-true _ _ (sym tells ∙ h))

  pub same_string : e ≡ false → {b : Bool} → b ≡ same_texts s q p → b ≡ same (text_at s p) (text_at s q)
  unfolding same_texts text_at
  same_string h f = f ∙ string_is (string s q) (string s p) (eqb-false _ _ (sym tells ∙ h))
