-- Texts that begin with a character: two are the same where the characters are, and what follows is; none of them is empty. Assumes nothing.
use Rattle.std.specs.Prelude.{◌≡◌, refl, Bool, true, false, [], ◌∷◌, ◌++◌, ℕ, ◌+◌, ◌-◌, ◌*◌, ◌/◌, ◌%◌, ◌≤◌, ◌<◌, get_or, eqb, ltb}
use Rattle.std.proofs.Common.{sym, ap, ◌∙◌, eq-eqb, eqb-true, lt-ltb, le-ltb, ltb-true, ltb-false}
use native.Mathlib.Omega.{arith}
use Rattle.std.proofs.lemmas.Bool.{eqb-false}
use Rattle.text.specs.Reading.{Text, Out, done, bad, deep, next, pick, peek}
use Rattle.text.specs.Strings.{character, utf8, before}
use Rattle.text.specs.laws.Readers.{pick_true, pick_false}
use Rattle.grammar.specs.Tree.{same}
use Rattle.values.specs.Strings.{is_text, rest}
use Rattle.values.specs.laws.Outs.{stops_is, stops_bad, stops_deep}
use Rattle.values.specs.laws.Standing.{text_stops, same_equal}
use Rattle.values.specs.laws.Rest.{rest_char, rest_stops}

-- a code point below 128 is one byte
pub few_one : (v : ℕ) → v < 128 → utf8 v ≡ v ∷ []
unfolding utf8
few_one v h = pick_true _ _ (lt-ltb v 128 h)

-- the code point that a text begins with, by its first four bytes
decoded : ℕ → ℕ → ℕ → ℕ → ℕ
decoded a b c d =
    pick (ltb a 128) a
    (pick (ltb a 224) ((a - 192) * 64 + (b - 128))
    (pick (ltb a 240) (((a - 224) * 64 + (b - 128)) * 64 + (c - 128))
    ((((a - 240) * 64 + (b - 128)) * 64 + (c - 128)) * 64 + (d - 128))))

decode : Text → ℕ
decode t = decoded (get_or t 0 0) (get_or t 1 0) (get_or t 2 0) (get_or t 3 0)

gather : (a b c d p q v : ℕ) → a * 64 + b ≡ p → p * 64 + c ≡ q → q * 64 + d ≡ v → (((240 + a - 240) * 64 + (128 + b - 128)) * 64 + (128 + c - 128)) * 64 + (128 + d - 128) ≡ v
gather a b c d p q v e f g = omega arith

pick_both : {A : Type 0} (P : A → Type 0) (b : Bool) {x y : A} → (b ≡ true → P x) → (b ≡ false → P y) → P (pick b x y)
unfolding pick
pick_both P true f g = f refl
pick_both P false f g = g refl

module _ (v : ℕ) (t : Text) where
  decode_four : 65536 ≤ v → decode ((240 + v / 262144) ∷ (128 + v / 4096 % 64) ∷ (128 + v / 64 % 64) ∷ (128 + v % 64) ∷ t) ≡ v
  unfolding decode decoded
  decode_four h =
      pick_false _ _ (le-ltb (240 + v / 262144) 128 (omega arith)) ∙ pick_false _ _ (le-ltb (240 + v / 262144) 224 (omega arith)) ∙ pick_false _ _ (le-ltb (240 + v / 262144) 240 (omega arith))
      ∙ gather (v / 262144) (v / 4096 % 64) (v / 64 % 64) (v % 64) (v / 4096) (v / 64) v (omega arith) (omega arith) (omega arith)

  decode_three : v < 65536 → decode ((224 + v / 4096) ∷ (128 + v / 64 % 64) ∷ (128 + v % 64) ∷ t) ≡ v
  unfolding decode decoded
  decode_three h =
      pick_false _ _ (le-ltb (224 + v / 4096) 128 (omega arith)) ∙ pick_false _ _ (le-ltb (224 + v / 4096) 224 (omega arith)) ∙ pick_true _ _ (lt-ltb (224 + v / 4096) 240 (omega arith)) ∙ omega arith

  decode_two : v < 2048 → decode ((192 + v / 64) ∷ (128 + v % 64) ∷ t) ≡ v
  unfolding decode decoded
  decode_two h =
      pick_false _ _ (le-ltb (192 + v / 64) 128 (omega arith)) ∙ pick_true _ _ (lt-ltb (192 + v / 64) 224 (omega arith)) ∙ omega arith

  decode_one : v < 128 → decode (v ∷ t) ≡ v
  unfolding decode decoded
  decode_one h = pick_true _ _ (lt-ltb v 128 h)

  -- the bytes of a code point tell it, whatever follows
  decode_utf8 : decode (utf8 v ++ t) ≡ v
  unfolding utf8
  decode_utf8 =
      pick_both (λ (u : Text). decode (u ++ t) ≡ v) _ (λ e. decode_one (ltb-true _ _ e))
      (λ _. pick_both (λ (u : Text). decode (u ++ t) ≡ v) _ (λ e. decode_two (ltb-true _ _ e))
      (λ _. pick_both (λ (u : Text). decode (u ++ t) ≡ v) _ (λ e. decode_three (ltb-true _ _ e)) (λ e. decode_four (ltb-false _ _ e))))

pub same_front : (u x y : Text) → same (u ++ x) (u ++ y) ≡ same x y
unfolding same
same_front [] x y = refl
same_front (a ∷ u) x y = pick_true _ _ (eq-eqb a a refl) ∙ same_front u x y

-- two texts that each begin with a character are the same where the characters are, and what follows is
pub characters_same : (v w : ℕ) (x y : Text) → same (utf8 v ++ x) (utf8 w ++ y) ≡ pick (eqb v w) (same x y) false
unfolding pick
characters_same v w x y = go (eqb v w) refl
  where
    no : (v ≡ w → ⊥) → (b : Bool) → same (utf8 v ++ x) (utf8 w ++ y) ≡ b → same (utf8 v ++ x) (utf8 w ++ y) ≡ false
    no n true e = absurd (n (sym (decode_utf8 v x) ∙ ap decode (same_equal _ _ e) ∙ decode_utf8 w y))
    no n false e = e

    go : (b : Bool) → eqb v w ≡ b → same (utf8 v ++ x) (utf8 w ++ y) ≡ pick b (same x y) false
    go true e = let p : v ≡ w = eqb-true v w e in rw (← p) (same_front (utf8 v) x y)
    go false e = no (eqb-false v w e) _ refl

-- a character is no empty text
no_empty : (v : ℕ) (x : Text) → same (utf8 v ++ x) [] ≡ false
unfolding utf8 same
no_empty v x =
    pick_both (λ (u : Text). same (u ++ x) [] ≡ false) _ (λ _. refl)
    (λ _. pick_both (λ (u : Text). same (u ++ x) [] ≡ false) _ (λ _. refl)
    (λ _. pick_both (λ (u : Text). same (u ++ x) [] ≡ false) _ (λ _. refl) (λ _. refl)))

text_open : (o : Out Text) (v : ℕ) → is_text (next o (before v)) [] ≡ false
unfolding is_text next before
text_open (done u j) v = no_empty v u
text_open (bad p) v = refl
text_open (deep p) v = refl

-- a string that does not close at once is not empty
pub not_empty : (s : Text) (i : ℕ) → (peek s i ≡ 34 → ⊥) → is_text (rest s i) [] ≡ false
not_empty s i h = go (character s i) refl
  where
    go : (o : Out ℕ) → character s i ≡ o → is_text (rest s i) [] ≡ false
    go (done v j) e = ap (λ (q : Out Text). is_text q []) (rest_char s i h e) ∙ text_open (rest s j) v
    go (bad p) e = text_stops _ [] (rest_stops s i h (stops_is e stops_bad))
    go (deep p) e = text_stops _ [] (rest_stops s i h (stops_is e stops_deep))
