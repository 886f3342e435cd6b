-- A text compared with bytes that come one after the other: whether they stand in it, and where they end. Assumes nothing.
use Rattle.std.specs.Prelude.{Bool, ◌&&◌, [], ◌∷◌, ◌≡◌, ℕ, ◌+◌, ◌^◌, ◌≤◌, ◌<◌, length, eqb, leb}
use Rattle.text.specs.Reading.{Text, Out, done, bad, deep, next, pick, peek}
use Rattle.text.specs.Strings.{before}
use Rattle.values.specs.Strings.{rest, ends_in}

-- so far the same, and the bytes stand in t from k on
unfoldable pub starts_from : Bool → Text → Text → ℕ → Bool
starts_from ok [] t k = ok
starts_from ok (x ∷ xs) t k = starts_from (ok && eqb x (peek t k)) xs t (k + 1)

-- where the bytes end in t, if they stand there from k on; past the end if they don't
unfoldable pub reach : Text → Text → ℕ → ℕ
reach [] t k = pick (leb k (length t)) k (length t + 1)
reach (x ∷ xs) t k = pick (eqb x (peek t k)) (reach xs t (k + 1)) (length t + 1)

-- the same of what was read
unfoldable pub ends_from : Out Text → Text → ℕ → ℕ
ends_from (done u j) t k = reach u t k
ends_from (bad p) t k = length t + 1
ends_from (deep p) t k = length t + 1

-- a code point that is compared with t from k on brings it to r: the text after it ends where it would with the code point before it
pub record Went (t : Text) (k v r : ℕ) : Type 0 where
  pub within : r ≤ length t + 1
  pub on : (o : Out Text) → ends_from (next o (before v)) t k ≡ ends_from o t r

-- a string that goes on at a position is as t for k bytes: what is left of it past these ends in t, where it was the same up to k, as all of it does
pub record Agrees (s : Text) (from : ℕ) (t : Text) (k : ℕ) : Type 0 where
  pub within : k ≤ length t
  pub fits : from + k < 2 ^ 64
  pub on : ends_from (rest s (from + k)) t k ≡ ends_in (rest s from) t
