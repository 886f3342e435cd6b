-- Readings are whole numbers from -2^63 to 2^63 - 1. Their exact sums, and their keys. Assumes nothing.
use Rattle.std.specs.Prelude.{ℕ, suc, ◌+◌, ◌-◌, ◌^◌, cond, ◌&&◌, ℤ, pos, negsuc, ◌+ℤ◌, ◌-ℤ◌, neg_ℤ, ◌≤ℤ◌, ◌<ℤ◌, int_le, int_lt, Option, Some, None}

-- 64 bits hold z
pub record Within (z : ℤ) : Type 0 where
  pub low : neg_ℤ (pos (2 ^ 63)) ≤ℤ z
  pub high : z <ℤ pos (2 ^ 63)

-- z as a reading: Some, where -2^63 ≤ z < 2^63, else None
unfoldable pub reading : ℤ → Option ℤ
reading z = cond (int_le (neg_ℤ (pos (2 ^ 63))) z && int_lt z (pos (2 ^ 63))) (Some z) None

-- "The result is t + y - x": exactly, and None where 64 bits do not hold it
unfoldable pub shifted_of : ℤ → ℤ → ℤ → Option ℤ
shifted_of t x y = reading (t +ℤ y -ℤ x)

-- the key of a reading: z + 2^63 as a number from 0 on (-1 - n stands as `negsuc n`)
unfoldable pub excess : ℤ → ℕ
excess (pos n) = 2 ^ 63 + n
excess (negsuc n) = 2 ^ 63 - suc n

-- the reading of a key: k - 2^63
unfoldable pub of_excess : ℕ → ℤ
of_excess k = pos k -ℤ pos (2 ^ 63)
