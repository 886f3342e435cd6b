-- Characters by how they are written, each as one number: an escape of two bytes, any other escape, a character of several bytes. What each tells is what reading the
-- character there gives (theorems `short_is`, `long_is`, `several_is`, `none_is`). Assumes nothing.
use Rattle.std.specs.Prelude.{ℕ, ◌+◌, ◌*◌, ◌-◌, eqb, ltb}
use Rattle.text.specs.Reading.{Text, Out, done, bad, deep, pick, peek}
use Rattle.text.specs.Strings.{escape_of, character}

-- what the backslash and the letter at i stand for; 0 where no such escape stands
unfoldable pub short_at : Text → ℕ → ℕ
short_at s i = pick (eqb (peek s i) 92) (escape_of (peek s (i + 1))) 0

-- a code point and how many bytes from i on tell it, as one number; 0 where none was read. (They are fewer than 16)
unfoldable pub packed : ℕ → Out ℕ → ℕ
packed i (done v j) = v * 16 + (j - i)
packed i (bad p) = 0
packed i (deep p) = 0

-- the escape of a backslash and a u at i
unfoldable pub long_at : Text → ℕ → ℕ
long_at s i = pick (eqb (peek s i) 92) (pick (eqb (peek s (i + 1)) 117) (packed i (character s i)) 0) 0

-- how many bytes from i on were read; 0 where none were
unfoldable pub bytes_in : ℕ → Out ℕ → ℕ
bytes_in i (done v j) = j - i
bytes_in i (bad p) = 0
bytes_in i (deep p) = 0

-- how many bytes the character of several bytes at i has; 0 where none stands
unfoldable pub several_at : Text → ℕ → ℕ
several_at s i = pick (ltb (peek s i) 128) 0 (bytes_in i (character s i))
