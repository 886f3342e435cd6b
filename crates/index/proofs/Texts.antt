-- The texts at positions, where a string stands and where none does. Assumes nothing.
use mathlib.Core.Path.{◌≡◌, refl, sym, ap, ◌∙◌}
use mathlib.Core.Bool.{Bool, true, false, false≢true}
use mathlib.Core.List.{[], ◌∷◌}
use Prim.Native.Nat.{ℕ}
use native.Mathlib.Omega.{arith}
use lib.Dec.{eqb}
use lib.ListN.{length}
use borrow.Author.Tests.{eq-eqb, ne_eqb}
use Rattle.text.specs.Reading.{Text, Out, done, bad, deep}
use Rattle.text.specs.Strings.{string}
use Rattle.grammar.specs.Tree.{same}
use Rattle.values.specs.Strings.{length_in, length_at, is_text, both_text, same_texts}
use Rattle.index.specs.Index.{text_in, text_at}

length_in_lem : (o : Out Text) → length_in o ≡ length (text_in o)
unfolding length_in text_in
length_in_lem (done t j) = refl
length_in_lem (bad p) = refl
length_in_lem (deep p) = refl

pub length_is : (s : Text) (p : ℕ) → length_at s p ≡ length (text_at s p)
unfolding length_at text_at
length_is s p = length_in_lem (string s p)

-- one of two texts is empty: they are the same if the other is
left_empty : (t u : Text) → length t ≡ 0 → eqb (length u) 0 ≡ same t u
unfolding same
left_empty [] [] h = eq-eqb 0 0 refl
left_empty [] (b ∷ u) h = ne_eqb (length (b ∷ u)) 0 (omega arith)
left_empty (a ∷ t) u h = absurd (omega arith)

-- neither is
same_none : (t : Text) → (length t ≡ 0 → ⊥) → false ≡ same t []
unfolding same
same_none [] h = absurd (h refl)
same_none (a ∷ t) h = refl

both_in : (o q : Out Text) → (length (text_in q) ≡ 0 → ⊥) → both_text o q ≡ same (text_in q) (text_in o)
unfolding both_text text_in is_text
both_in (done t j) (done u k) h = refl
both_in (done t j) (bad k) h = absurd (h refl)
both_in (done t j) (deep k) h = absurd (h refl)
both_in (bad j) q h = same_none (text_in q) h
both_in (deep j) q h = same_none (text_in q) h

-- two strings that are alike are read at both positions
both_true : (o q : Out Text) → both_text o q ≡ true → true ≡ same (text_in q) (text_in o)
unfolding both_text text_in is_text
both_true (done t j) (done u k) h = sym h
both_true (done t j) (bad k) h = absurd (false≢true h)
both_true (done t j) (deep k) h = absurd (false≢true h)
both_true (bad j) q h = absurd (false≢true h)
both_true (deep j) q h = absurd (false≢true h)

module _ (s : Text) (p : ℕ) where
  pub both_alike : (q : ℕ) {b : Bool} → b ≡ same_texts s q p → b ≡ true → true ≡ same (text_at s p) (text_at s q)
  unfolding same_texts text_at
  both_alike q e h = both_true (string s q) (string s p) (sym e ∙ h)

  module _ (q : ℕ) {n : ℕ} (e : n ≡ length_at s p) where
    pub both_empty : {m : ℕ} → n ≡ 0 → m ≡ length_at s q → eqb m 0 ≡ same (text_at s p) (text_at s q)
    both_empty h f = ap (λ (k : ℕ). eqb k 0) (f ∙ length_is s q) ∙ left_empty (text_at s p) (text_at s q) (sym (e ∙ length_is s p) ∙ h)

    pub both_texts : (n ≡ 0 → ⊥) → same_texts s q p ≡ same (text_at s p) (text_at s q)
    unfolding same_texts text_at
    both_texts h = both_in (string s q) (string s p) (λ z. h (e ∙ (length_is s p ∙ z)))
