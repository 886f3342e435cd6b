-- What the definitions say, in other words. Assumes nothing.
use Rattle.std.specs.Prelude.{◌≡◌, refl, false, ◌&&◌, ◌||◌, ◌⊎◌, ◌++◌, ℕ, suc, ◌+◌, ◌/◌, ◌%◌, ◌≤◌, ◌<◌, length, take, leb, ltb, eqb}
use Rattle.text.specs.Reading.{Text, done, bad, next, peek, part, word}
use Rattle.text.specs.Class.{class_of, whitespace, digit}
use Rattle.text.specs.Strings.{character, utf8, characters, string}
use Rattle.text.specs.Raw.{past_raw}
use Rattle.text.specs.Escapes.{short_at, long_at, several_at}
use Rattle.text.specs.Numbers.{number}
use Rattle.text.specs.laws.ClassTable.{Exactly, single, white_bytes, digit_bytes, control_bytes, plain_bytes, single_exactly}
use Rattle.text.specs.laws.Readers.{closed_ends, bad_stays, bad_completes}
use Rattle.text.specs.laws.Runs.{stop_end}
use Rattle.text.specs.laws.Words.{Bytes, word_local, word_ends, word_bounded}
use Rattle.text.specs.laws.Numbers.{number_local, number_ends, number_bounded}
use Rattle.text.specs.laws.Strings.{string_local, string_ends, string_bounded}
use Rattle.text.specs.laws.Utf8.{character_scalar, character_raw}
use Rattle.text.specs.laws.Raw.{prefixed, raw_reads}
use Rattle.text.specs.laws.Escapes.{short_reads, long_reads, several_reads, no_character}

-- Exactly the bytes 9, 10, 13 and 32 are whitespace.
pub whitespace_is : (b : ℕ) → whitespace b ≡ (eqb b 9 || (eqb b 10 || (eqb b 13 || eqb b 32)))
unfolding whitespace
whitespace_is b = white_bytes b

-- Exactly the bytes 48 to 57 are digits.
pub digit_is : (b : ℕ) → digit b ≡ (leb 48 b && leb b 57)
unfolding digit
digit_is b = digit_bytes b

-- Exactly the bytes below 32, and what is no byte, are of the classes 0 and 1: no character of a string.
pub control_is : (b : ℕ) → ltb (class_of b) 2 ≡ (ltb b 32 || leb 256 b)
control_is b = control_bytes b

-- Each of these ranges is exactly the bytes of its class.
pub classes_are : Exactly single
classes_are = single_exactly

-- Exactly the bytes 32, 33, 35 to 91 and 93 to 127 are characters by themselves: RFC 8259's unescaped characters, as far as they are one byte.
pub plain_is : (b : ℕ) → (leb 4 (class_of b) && ltb (class_of b) 18) ≡ ((leb 32 b && leb b 33) || ((leb 35 b && leb b 91) || (leb 93 b && leb b 127)))
plain_is b = plain_bytes b

-- A character's code point is a Unicode scalar value: no surrogate, whether escaped or not, and at most 10FFFF.
pub character_is_scalar : (s : Text) (i v j : ℕ) → character s i ≡ done v j → (v < 55296) ⊎ ((57344 ≤ v) × (v ≤ 1114111))
character_is_scalar s i v j e = character_scalar s i v j e

-- A character that is not escaped stands there as its code point's UTF-8. So no longer form than need be is taken.
pub character_is_raw : (s : Text) (i v j : ℕ) → character s i ≡ done v j → (peek s i ≡ 92 → ⊥) → utf8 v ≡ part s i j
character_is_raw s i v j e n = character_raw s i v j e n

-- What stands for its own bytes is read as these bytes: what is left of a string is the bytes up to `past_raw`, and then what is left past them.
pub raw_is : (s : Text) (i : ℕ) → characters (suc (length s)) s i ≡ next (characters (suc (length s)) s (past_raw s i)) (prefixed (part s i (past_raw s i)))
raw_is s i = raw_reads s i refl

-- A character that is told by how it is written is read as that, and so many bytes are read.
pub short_is : (s : Text) (i : ℕ) → 0 < short_at s i → character s i ≡ done (short_at s i) (i + 2)
short_is s i h = short_reads s i refl h

pub long_is : (s : Text) (i : ℕ) → 0 < long_at s i → character s i ≡ done (long_at s i / 16) (i + long_at s i % 16)
long_is s i h = long_reads s i refl h

pub several_is : (s : Text) (i : ℕ) → 0 < several_at s i → (v : ℕ) × (character s i ≡ done v (i + several_at s i)) × (utf8 v ≡ part s i (i + several_at s i))
several_is s i h = let w = several_reads s i refl h in (w.0, w.1, w.2)

-- Where none is told, and no byte that is a character by itself stands, there is no character.
pub none_is : (s : Text) (i : ℕ) → short_at s i ≡ 0 → long_at s i ≡ 0 → several_at s i ≡ 0 → (leb 4 (class_of (peek s i)) && ltb (class_of (peek s i)) 18) ≡ false → (p : ℕ) × (character s i ≡ bad p)
none_is s i a b c h = no_character s i refl a refl b refl c h

-- Where a string goes wrong at p, no text with the same bytes up to p, p among them, has a string there; but its first p bytes
-- can be completed to one. So p is the first position after which no string is possible.
pub string_wrong : (s t : Text) (i p : ℕ) → string s i ≡ bad p → take (suc p) s ≡ take (suc p) t → string t i ≡ bad p
string_wrong = bad_stays string string_local

pub string_begun : (s : Text) (i p : ℕ) → i ≤ length s → string s i ≡ bad p → (u : Text) × (a : Text) × (string (take p s ++ u) i ≡ done a (p + length u))
string_begun = bad_completes string (closed_ends string string_ends) string_bounded stop_end

-- The same of a number.
pub number_wrong : (s t : Text) (i p : ℕ) → number s i ≡ bad p → take (suc p) s ≡ take (suc p) t → number t i ≡ bad p
number_wrong = bad_stays number number_local

pub number_begun : (s : Text) (i p : ℕ) → i ≤ length s → number s i ≡ bad p → (u : Text) × (a : Text) × (number (take p s ++ u) i ≡ done a (p + length u))
number_begun = bad_completes number number_ends number_bounded stop_end

-- The same of given bytes.
pub word_wrong : (w s t : Text) (i p : ℕ) → word w s i ≡ bad p → take (suc p) s ≡ take (suc p) t → word w t i ≡ bad p
word_wrong w = bad_stays (word w) (word_local w)

pub word_begun : (w : Text) → Bytes w → (s : Text) (i p : ℕ) → i ≤ length s → word w s i ≡ bad p → (u : Text) × (a : Unit {0}) × (word w (take p s ++ u) i ≡ done a (p + length u))
word_begun w b = bad_completes (word w) (closed_ends (word w) (word_ends w)) (word_bounded w b) stop_end
