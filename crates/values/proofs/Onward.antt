-- Where the comparison of a string with a text byte by byte comes to its end: at a byte that is another and begins no escape, at the end of the text, or where it leaves the
-- rest to a comparison by characters. Assumes nothing.
use mathlib.Core.Path.{◌≡◌, refl, sym, ap, ◌∙◌}
use mathlib.Core.Bool.{Bool, true, false}
use mathlib.Core.List.{[], ◌∷◌}
use Prim.Native.Nat.{ℕ, ◌+◌, ◌-◌, ◌^◌, ◌≤◌, ◌<◌}
use native.Mathlib.Omega.{arith}
use native.Mathlib.Nat.{add-zero}
use native.Mathlib.Decide.{dec_lt}
use lib.ListN.{length}
use borrow.Author.Tests.{ne_eqb}
use Rattle.text.specs.Reading.{Text, Out, done, bad, deep, peek, part}
use Rattle.text.specs.Strings.{character, utf8}
use Rattle.text.specs.laws.Utf8.{character_raw}
use Rattle.values.specs.Strings.{rest, ends_in}
use Rattle.values.specs.laws.Compared.{starts_from, ends_from, Went, Agrees}
use Rattle.values.specs.laws.Outs.{stops_is, stops_bad, stops_deep}
use Rattle.values.specs.laws.Raws.{part_length, part_peek}
use Rattle.values.proofs.Widths.{at_least_one}
use Rattle.values.proofs.Compare.{ahead, went_not, went_over, ends_all, ends_stop, ends_more}

-- bytes do not stand in t once one does not
never : (xs t : Text) (k : ℕ) → starts_from false xs t k ≡ false
unfolding starts_from
never [] t k = refl
never (x ∷ xs) t k = never xs t (k + 1)

first_other : (u t : Text) (k : ℕ) → 0 < length u → (peek u 0 ≡ peek t k → ⊥) → starts_from true u t k ≡ false
unfolding starts_from peek
first_other [] t k h n = absurd (omega arith)
first_other (x ∷ u) t k h n = ap (λ (b : Bool). starts_from b u t (k + 1)) (ne_eqb _ _ n) ∙ never u t (k + 1)

-- a code point at the end of t, or past it
went_past : (t : Text) (k v : ℕ) → length t ≤ k → Went t k v (length t + 1)
went_past t k v l = go (starts_from true (utf8 v) t k) refl
  where
    go : (b : Bool) → b ≡ starts_from true (utf8 v) t k → Went t k v (length t + 1)
    go true e = went_over t k v e refl refl (omega (arith, at_least_one v))
    go false e = went_not t k v e refl

module _ (s t : Text) (k i : ℕ) {r : ℕ} (inv : ends_from (rest s i) t k ≡ r) (h : peek s i ≡ 34 → ⊥) where
  -- each character that may stand there is another
  another : ((v j : ℕ) → character s i ≡ done v j → Went t k v (length t + 1)) → length t + 1 ≡ r
  another f = go (character s i) refl
    where
      go : (o : Out ℕ) → character s i ≡ o → length t + 1 ≡ r
      go (done v j) e = ends_all s t (length t + 1) j (ends_more s t k i inv h e (f v j e)) (omega arith) (omega arith)
      go (bad p) e = ends_stop s t k i inv h (stops_is e stops_bad)
      go (deep p) e = ends_stop s t k i inv h (stops_is e stops_deep)

  -- the text ends, and the string does not
  ends_over : length t ≤ k → length t + 1 ≡ r
  ends_over l = another (λ v j _. went_past t k v l)

  -- a byte that is another, and begins no escape: a character that begins with it has it as its first byte
  pub ends_first : {b x : ℕ} → b ≡ peek s i → (b ≡ 92 → ⊥) → x ≡ peek t k → (x ≡ b → ⊥) → length t + 1 ≡ r
  ends_first {b} {x} e m f n = another there
    where
      there : (v j : ℕ) → character s i ≡ done v j → Went t k v (length t + 1)
      there v j c =
          let lo : i < j = (ahead s c).0 in
          let hi : j ≤ length s = (ahead s c).1 in
          let z : length (part s i j) ≡ j - i = part_length s i j (omega arith) in
          let q : peek (part s i j) 0 ≡ b = part_peek s i j 0 (omega arith) ∙ ap (peek s) (add-zero i) ∙ sym e in
          let w : starts_from true (part s i j) t k ≡ false = first_other (part s i j) t k (omega arith) (λ y. n (f ∙ sym y ∙ q)) in
          went_not t k v refl (ap (λ (u : Text). starts_from true u t k) (character_raw s i v j c (λ y. m (e ∙ y))) ∙ w)

-- what is given where the first n bytes of t do not decide
pub undecided_told : (s t : Text) (n i from : ℕ) {r : ℕ} → ends_from (rest s i) t n ≡ ends_in (rest s from) t → (peek s i ≡ 34 → ⊥) → i ≡ from + n → i < 2 ^ 64 → (n < length t → r ≡ length t + 2 + n) × (length t ≤ n → r ≡ length t + 1) → (r ≤ length t + 1 → r ≡ ends_in (rest s from) t) × (length t + 2 ≤ r → Agrees s from t (r - length t - 2))
undecided_told s t n i from {r} inv h q l given = go (dec_lt n (length t))
  where
    go : Dec (n < length t) → (r ≤ length t + 1 → r ≡ ends_in (rest s from) t) × (length t + 2 ≤ r → Agrees s from t (r - length t - 2))
    go (yes m) =
        let e : r ≡ length t + 2 + n = given.0 m in
        let z : n ≡ r - length t - 2 = omega arith in (
          λ (y : r ≤ length t + 1). absurd (omega arith),
          λ _. rw (← z) (record { within = omega arith; fits = omega arith; on = ap (λ (j : ℕ). ends_from (rest s j) t n) (sym q) ∙ inv }),
        )
    go (no m) =
        let e : r ≡ length t + 1 = given.1 (omega arith) in
        (λ _. e ∙ ends_over s t n i inv h (omega arith), λ (y : length t + 2 ≤ r). absurd (omega arith))
