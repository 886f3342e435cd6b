-- A slice of bytes as bits: "Fields are bit-packed, most significant first, without gaps; a bit position that moves through the sheet
-- is the only alignment. Readings are 64-bit two's complement." Assumes nothing.
use Rattle.std.specs.Prelude.{Bool, ◌&&◌, cond, Option, Some, None, option_map, List, ℤ, ℕ, zero, suc, ◌+◌, ◌-◌, ◌*◌, ◌/◌, ◌%◌, ◌^◌, leb, ltb, length, get_or}
use Rattle.std.specs.Int.{w64}
use Rattle.std.proofs.Common.{to_z}
use Rattle.bits.specs.declared.Taken.{Taken}

-- the bit at position i: bit 0 is the most significant of byte 0; past the end bits are 0
abbrev pub bit_at : List ℕ → ℕ → ℕ
bit_at s i = get_or s (i / 8) 0 / 2 ^ (7 - i % 8) % 2

-- the number that the w bits from position i on write, most significant first
unfoldable pub number : List ℕ → ℕ → ℕ → ℕ
number s i zero = 0
number s i (suc w) = number s i w * 2 + bit_at s (i + w)

-- a field has at most 64 bits, and no cursor stands past position 2^64 - 1
unfoldable pub may_stand : ℕ → ℕ → Bool
may_stand i w = leb w 64 && ltb (i + w) (2 ^ 64)

-- the slice has all w bits from position i on
unfoldable pub inside : List ℕ → ℕ → ℕ → Bool
inside s i w = leb (i + w) (8 * length s)

-- the position past w bits at position i, if they may stand there
abbrev pub end_of : ℕ → ℕ → Option ℕ
end_of i w = cond (may_stand i w) (Some (i + w)) None

-- w bits at position i with the cursor past them, whether or not the slice has them
abbrev pub taken : List ℕ → ℕ → ℕ → Taken ℕ
taken s i w = record { value = number s i w; next = record { at = i + w } }

-- the field of w bits at position i with the cursor past it; None where the slice ends before the field does, or it may not stand there
unfoldable pub field_at : List ℕ → ℕ → ℕ → Option (Taken ℕ)
field_at s i w = cond (may_stand i w && inside s i w) (Some (taken s i w)) None

-- the same on every input, with zeros past the end: what may not stand there is 0 and moves nothing
unfoldable pub taken_at : List ℕ → ℕ → ℕ → Taken ℕ
taken_at s i w = cond (may_stand i w) (taken s i w) (record { value = 0; next = record { at = i } })

-- a field of 64 bits as a reading, in two's complement: v, or v - 2^64 where the first bit is set (`reading_low`, `reading_high`)
abbrev pub signed : Taken ℕ → Taken ℤ
signed t = record { value = to_z w64 t.value; next = t.next }

-- the reading at position i with the cursor past it, or that it is cut short
unfoldable pub reading_at : List ℕ → ℕ → Option (Taken ℤ)
reading_at s i = option_map signed (field_at s i 64)
