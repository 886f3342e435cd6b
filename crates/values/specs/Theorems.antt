-- What the questions say of the value that stands at a position. Assumes nothing.
use Rattle.std.specs.Prelude.{◌≡◌, refl, true, ℕ, ◌+◌, ◌≤◌, ◌<◌, eqb, length, take}
use Rattle.text.specs.Reading.{Text, Out, done}
use Rattle.text.specs.Class.{skip}
use Rattle.text.specs.Strings.{character, string}
use Rattle.text.specs.Numbers.{number}
use Rattle.grammar.specs.Tree.{Tree, num, str, same}
use Rattle.grammar.specs.Document.{read}
use Rattle.values.specs.Stands.{Stands, kind_of, kind_at}
use Rattle.values.specs.Strings.{length_at, is_text, same_as, ends_in, same_texts, ascii_at, length_of, is_string, same_strings}
use Rattle.values.specs.Integer.{integer_at, integer_of}
use Rattle.values.specs.laws.Standing.{document_is, kind_is, text_is, figure_is, length_is, same_is, both_are, integer_is, same_self, same_equal}
use Rattle.values.specs.laws.Standing.{stands_once}
use Rattle.values.specs.laws.Ends.{ends_at}
use Rattle.values.specs.laws.Ascii.{ascii_reads}

-- the value of a whole text stands past its first whitespace
pub document_stands : (s : Text) (t : Tree) (n : ℕ) → read s ≡ done t n → Stands s (skip s 0) t
document_stands s t n e = document_is s t n e

-- one value at most stands at a position
pub stands_unique : {s : Text} {p : ℕ} {t u : Tree} → Stands s p t → Stands s p u → t ≡ u
stands_unique h g = stands_once h g

-- the kind that the first byte tells is the value's kind
pub kind_stands : {s : Text} {p : ℕ} {t : Tree} → Stands s p t → kind_at s p ≡ kind_of t
kind_stands h = kind_is h

-- where a string stands its text is read, and where a number stands its characters are
pub string_stands : {s : Text} {p : ℕ} {t : Text} (h : Stands s p (str t)) → string s p ≡ done t h.until
string_stands h = text_is h

pub number_stands : {s : Text} {p : ℕ} {cs : Text} (h : Stands s p (num cs)) → number s p ≡ done cs h.until
number_stands h = figure_is h

-- the questions about a text are answered of the string that stands there, and of another value as of none
pub length_stands : {s : Text} {p : ℕ} {t : Tree} → Stands s p t → length_at s p ≡ length_of t
length_stands h = length_is h

pub same_stands : {s : Text} {p : ℕ} {t : Tree} → Stands s p t → (u : Text) → same_as s p u ≡ is_string t u
same_stands h u = same_is h u

pub both_stand : {s : Text} {p q : ℕ} {t u : Tree} → Stands s p t → Stands s q u → same_texts s p q ≡ same_strings t u
both_stand h g = both_are h g

-- `same` is equality
pub same_is_equal : (t u : Text) → same t u ≡ true → t ≡ u
same_is_equal t u e = same_equal t u e

pub equal_is_same : (t : Text) → same t t ≡ true
equal_is_same t = same_self t

-- `ends_in` tells which beginning of a text was read: that of n bytes, exactly where it gives n
pub ends_is : (o : Out Text) (t : Text) (n : ℕ) → n ≤ length t → is_text o (take n t) ≡ eqb (ends_in o t) n
ends_is o t n h = ends_at o t n h

-- an escape that is told as a character of ASCII is read as that character, and has 6 bytes
pub ascii_reads_so : (s : Text) (i : ℕ) → 0 < ascii_at s i → character s i ≡ done (ascii_at s i) (i + 6)
ascii_reads_so s i h = (ascii_reads s i refl h).reads

-- the integer is that of the number that stands there; another value has none
pub integer_stands : {s : Text} {p : ℕ} {t : Tree} → Stands s p t → integer_at s p ≡ integer_of t
integer_stands h = integer_is h
