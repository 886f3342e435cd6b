-- The text of the string at a position: its length, and whether it is another text, or its beginning; and escapes that stand for ASCII. Assumes nothing.
use Rattle.std.specs.Prelude.{Bool, true, false, [], ◌∷◌, ℕ, suc, ◌+◌, ◌/◌, length, eqb, ltb}
use Rattle.text.specs.Reading.{Text, Out, done, bad, deep, pick}
use Rattle.text.specs.Strings.{characters, string}
use Rattle.text.specs.Escapes.{long_at}
use Rattle.grammar.specs.Tree.{Tree, null, bool, num, str, arr, obj, same}

-- how many bytes were read; 0 where no string stands
unfoldable pub length_in : Out Text → ℕ
length_in (done t j) = length t
length_in (bad p) = 0
length_in (deep p) = 0

-- the unescaped length of the string at p
unfoldable pub length_at : Text → ℕ → ℕ
length_at s p = length_in (string s p)

-- what was read is the text t; false where no string stands
unfoldable pub is_text : Out Text → Text → Bool
is_text (done u j) t = same u t
is_text (bad p) t = false
is_text (deep p) t = false

-- the string at p, unescaped, is the text t
unfoldable pub same_as : Text → ℕ → Text → Bool
same_as s p t = is_text (string s p) t

-- what is left of a string from a position within it on
unfoldable pub rest : Text → ℕ → Out Text
rest s i = characters (suc (length s)) s i

-- the second text begins with the first
unfoldable pub begins : Text → Text → Bool
begins [] t = true
begins (a ∷ u) [] = false
begins (a ∷ u) (b ∷ t) = pick (eqb a b) (begins u t) false

-- how many bytes were read, if t begins with them; one more than t has if it does not, or if nothing was read
unfoldable pub ends_in : Out Text → Text → ℕ
ends_in (done u j) t = pick (begins u t) (length u) (length t + 1)
ends_in (bad p) t = length t + 1
ends_in (deep p) t = length t + 1

-- two strings, unescaped, are the same text; false where either is none
unfoldable pub both_text : Out Text → Out Text → Bool
both_text (done t j) o = is_text o t
both_text (bad p) o = false
both_text (deep p) o = false

unfoldable pub same_texts : Text → ℕ → ℕ → Bool
same_texts s p q = both_text (string s p) (string s q)

-- the character of ASCII for which the escape of a backslash, a u and four digits at i stands; 0 where none stands, and for the character 0
unfoldable pub ascii_at : Text → ℕ → ℕ
ascii_at s i = pick (ltb (long_at s i) 2048) (long_at s i / 16) 0

-- ---- the same of values

-- the length of a string's text; 0 of what is no string
unfoldable pub length_of : Tree → ℕ
length_of null = 0
length_of (bool b) = 0
length_of (num cs) = 0
length_of (str t) = length t
length_of (arr ts) = 0
length_of (obj ms) = 0

-- a value is the string t
unfoldable pub is_string : Tree → Text → Bool
is_string null t = false
is_string (bool b) t = false
is_string (num cs) t = false
is_string (str u) t = same u t
is_string (arr ts) t = false
is_string (obj ms) t = false

-- two values are strings of the same text
unfoldable pub same_strings : Tree → Tree → Bool
same_strings null u = false
same_strings (bool b) u = false
same_strings (num cs) u = false
same_strings (str t) u = is_string u t
same_strings (arr ts) u = false
same_strings (obj ms) u = false
