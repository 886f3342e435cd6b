-- The characters of a string that stand for their own bytes: all but escapes. Assumes nothing.
use Rattle.std.specs.Prelude.{ℕ, zero, suc, length, eqb}
use Rattle.text.specs.Reading.{Text, Out, done, bad, deep, pick, peek}
use Rattle.text.specs.Strings.{character}

-- after the character that was read at i: where `more` comes to from its end on; and i where there is none
unfoldable pub further : (ℕ → ℕ) → ℕ → Out ℕ → ℕ
further more i (done v j) = more j
further more i (bad p) = i
further more i (deep p) = i

-- past such characters from i on, so many at most: a backslash begins none
unfoldable pub raw_turns : ℕ → Text → ℕ → ℕ
raw_turns zero s i = i
raw_turns (suc turns) s i = pick (eqb (peek s i) 92) i (further (raw_turns turns s) i (character s i))

-- past all of them. A character takes a byte at least, so a turn more than the text has bytes is enough
unfoldable pub past_raw : Text → ℕ → ℕ
past_raw s i = raw_turns (suc (length s)) s i
