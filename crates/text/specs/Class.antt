-- The class of a byte by RFC 8259 and RFC 3629: the ranges of byte values, each with its class. Assumes nothing.
use Rattle.std.specs.Prelude.{ℕ, Bool, ◌||◌, List, [], ◌∷◌, leb, eqb}
use Rattle.text.specs.Reading.{Text, pick, run}

-- the numbers from the first to the second, both included, have the third
pub data Range : Type 0 where
  range : ℕ → ℕ → ℕ → Range

-- what the first range that holds b gives it; 0 if none holds it
abbrev pub among : List Range → ℕ → ℕ
among [] b = 0
among (range lo hi k ∷ rs) b = pick (leb lo b) (pick (leb b hi) k (among rs b)) (among rs b)

-- 0: a control byte, or no byte. 1: tab, line feed, carriage return. 2: quote. 3: backslash. 4: space.
-- 5: the digit 0. 6: the digits 1 to 9. 7: -  8: +  9: .  10: [  11: ]  12: {  13: }  14: :  15: ,  16: a letter. 17: other ASCII.
-- 18: a UTF-8 continuation byte. 19, 20, 21: the first of two, three, four bytes. 22: a byte that UTF-8 never has.
abbrev pub ranges : List Range
ranges =
    range 9 10 1 ∷ range 13 13 1 ∷ range 0 31 0 ∷
    range 34 34 2 ∷ range 92 92 3 ∷ range 32 32 4 ∷
    range 48 48 5 ∷ range 49 57 6 ∷ range 45 45 7 ∷ range 43 43 8 ∷ range 46 46 9 ∷
    range 91 91 10 ∷ range 93 93 11 ∷ range 123 123 12 ∷ range 125 125 13 ∷ range 58 58 14 ∷ range 44 44 15 ∷
    range 65 90 16 ∷ range 97 122 16 ∷ range 33 127 17 ∷
    range 128 191 18 ∷ range 194 223 19 ∷ range 224 239 20 ∷ range 240 244 21 ∷ range 192 255 22 ∷ []

unfoldable pub class_of : ℕ → ℕ
class_of b = among ranges b

-- RFC 8259's ws: space, tab, line feed, carriage return
unfoldable pub whitespace : ℕ → Bool
whitespace b = eqb (class_of b) 4 || eqb (class_of b) 1

-- past the whitespace at i
unfoldable pub skip : Text → ℕ → ℕ
skip s i = run whitespace s i

-- 0 to 9
unfoldable pub digit : ℕ → Bool
digit b = eqb (class_of b) 5 || eqb (class_of b) 6
