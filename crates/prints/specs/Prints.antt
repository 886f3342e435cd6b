-- The print of a text: a number that equal texts share and few others, so that most texts that differ are told apart without being compared. Equal texts have equal prints, and
-- the empty text alone has 0 (theorems `one_text_one_print`, `print_0_of_nothing`). And the first bytes of a text in memory. Assumes nothing.
use Rattle.std.specs.Prelude.{List, [], ◌∷◌, ◌++◌, ℕ, zero, suc, ◌+◌, ◌-◌, ◌*◌, ◌/◌, ◌%◌, eqb, length, take, drop, replicate}
use Rattle.text.specs.Reading.{Text, pick}
use Rattle.index.specs.Index.{text_at, col_of, listed}

-- one number more, a word of eight bytes or a byte: both halves of a word count. (No sum passes 64 bits)
unfoldable pub step : ℕ → ℕ → ℕ
step print w = print % 4294967296 * 16777619 + w % 4294967296 + w / 4294967296 * 2654435761

-- several numbers more
unfoldable pub steps : ℕ → List ℕ → ℕ
steps print [] = print
steps print (w ∷ l) = steps (step print w) l

-- bytes as one number, the first the lowest
unfoldable pub word_of : Text → ℕ
word_of [] = 0
word_of (b ∷ t) = b + word_of t * 256

-- a text as numbers: k words of eight bytes, and what is left byte by byte
unfoldable pub words_of : ℕ → Text → List ℕ
words_of zero t = t
words_of (suc k) t = word_of (take 8 t) ∷ words_of k (drop 8 t)

-- the bytes of a text more, by eights as far as they go
unfoldable pub print_from : ℕ → Text → ℕ
print_from print t = steps print (words_of (length t / 8) t)

-- what is told of n bytes, in 32 bits: 0 of none alone
unfoldable pub told_of : ℕ → ℕ → ℕ
told_of print n = pick (eqb n 0) 0 (print % 2147483648 + 1)

-- the print of a text: of its first 256 bytes, for no path and no name that is accepted has more
unfoldable pub print_of : Text → ℕ
print_of t = told_of (print_from 0 (take 256 t)) (length t)

-- the print of the text at p
unfoldable pub print_at : Text → ℕ → ℕ
print_at s p = print_of (text_at s p)

-- the first 256 bytes of a text, and zeros past its end
unfoldable pub front : Text → List ℕ
front t = take 256 t ++ replicate (256 - length t) 0

-- the print of the path of entry i
abbrev pub path_print : Text → List ℕ → ℕ → ℕ
path_print s ix i = print_at s (col_of ix i 0)

-- of entries 0 to 31; where there is no path, of the text at 0
unfoldable pub path_prints : Text → List ℕ → List ℕ
path_prints s ix = listed (path_print s ix) 0 32
