-- What is left of a string from a position on: a character at a time. Assumes nothing.
use Rattle.std.specs.Prelude.{◌≡◌, [], ℕ, suc, ◌+◌, ◌/◌, ◌%◌, ◌<◌, length}
use Rattle.std.proofs.Common.{sym, ◌∙◌, arith}
use Rattle.std.proofs.Math.Path.{ap}
use Rattle.text.specs.Reading.{Text, Out, done, bad, deep, next, peek}
use Rattle.text.specs.Strings.{character, before, onward, characters, string, code_of}
use Rattle.text.specs.declared.Code.{Code}
use Rattle.text.specs.declared.Code.TheVariants.{Of, No}
use Rattle.text.specs.laws.Readers.{next_was}
use Rattle.text.specs.laws.Strings.{character_strict, characters_turns, characters_close, characters_open, string_some}
use Rattle.values.specs.Strings.{rest}
use Rattle.values.specs.laws.Outs.{Stops, stops_next, stops_is}

module _ (s : Text) (i : ℕ) where
  pub rest_close : peek s i ≡ 34 → rest s i ≡ done [] (i + 1)
  unfolding rest
  rest_close h = characters_close (length s) s i h

  open_rest : (peek s i ≡ 34 → ⊥) → rest s i ≡ next (character s i) (onward (characters (length s)) s)
  unfolding rest
  open_rest h = characters_open (length s) s i h

  pub rest_char : (peek s i ≡ 34 → ⊥) → {v j : ℕ} → character s i ≡ done v j → rest s i ≡ next (rest s j) (before v)
  unfolding rest onward
  rest_char n {v} {j} e =
      open_rest n ∙ next_was _ e
      ∙ ap (λ (o : Out Text). next o (before v)) (characters_turns s (length s) (suc (length s)) j (omega (arith, character_strict s i v j e)) (omega arith))

  pub rest_stops : (peek s i ≡ 34 → ⊥) → Stops (character s i) → Stops (rest s i)
  rest_stops n h = stops_is (open_rest n) (stops_next _ _ h)

-- what the code read of a character
pub code_of_lem : (o : Out ℕ) {r : Code} {v j : ℕ} → r ≡ code_of o → r ≡ Of v j → o ≡ done v j
unfolding code_of
code_of_lem (done w k) {r} {v} {j} e f = let g : Of w k ≡ Of v j = sym e ∙ f in let p : w ≡ v = cc in let q : k ≡ j = cc in cc
code_of_lem (bad p) e f = let z : ◌≡◌ {A = ℕ} 0 1 = cc in absurd (omega arith)
code_of_lem (deep p) e f = let z : ◌≡◌ {A = ℕ} 0 1 = cc in absurd (omega arith)

pub code_no : (o : Out ℕ) {r : Code} {p : ℕ} → r ≡ code_of o → r ≡ No p → Stops o
unfolding code_of
code_no o {r} {p} e f = record { never = λ v j g. no (sym (ap code_of g) ∙ sym e ∙ f) }
  where
    no : {v j : ℕ} → Of v j ≡ No p → ⊥
    no g = let z : ◌≡◌ {A = ℕ} 0 1 = cc in omega arith

-- r is the character at i as one number: its code point times 16, and how many bytes it has; 0 where there is none
pub record Coded (s : Text) (i r : ℕ) : Type 0 where
  pub some : 0 < r → character s i ≡ done (r / 16) (i + r % 16)
  pub none : r ≡ 0 → Stops (character s i)

-- a string is what is left past its quote
pub string_is : (s : Text) (p : ℕ) → peek s p ≡ 34 → string s p ≡ rest s (p + 1)
unfolding rest
string_is s p h = string_some s p h
