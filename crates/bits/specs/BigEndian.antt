-- A slice as one number, with which the theorems compare its fields. Assumes nothing.
use Rattle.std.specs.Prelude.{List, [], ◌∷◌, ℕ, ◌+◌, ◌*◌, ◌^◌, ◌<◌, length, get_or}

-- each element is a byte
abbrev pub Bytes : List ℕ → Type 0
Bytes s = (k : ℕ) → get_or s k 0 < 256

-- the bytes as one number, the first the most significant
unfoldable pub big_endian : List ℕ → ℕ
big_endian [] = 0
big_endian (b ∷ s) = b * 2 ^ (8 * length s) + big_endian s
