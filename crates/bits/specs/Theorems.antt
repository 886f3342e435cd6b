-- What fields and readings mean, said of the whole slice and in plain numbers. Assumes nothing.
use Rattle.std.specs.Prelude.{◌≡◌, Some, None, List, ℕ, suc, ◌+◌, ◌-◌, ◌*◌, ◌/◌, ◌%◌, ◌^◌, ◌<◌, ◌≤◌, pos, length, get_or}
use Rattle.std.proofs.Common.{◌∙◌}
use Rattle.std.proofs.Math.IntN.{sub_ℕ}
use Rattle.bits.specs.declared.Cursor.{Cursor}
use Rattle.bits.specs.Bits.{bit_at, number, field_at, taken_at, reading_at}
use Rattle.bits.specs.BigEndian.{Bytes, big_endian}
use Rattle.bits.specs.laws.BigEndian as BigEndian
use Rattle.bits.specs.laws.Number as Number
use Rattle.bits.specs.laws.Slices as Slices
use Rattle.bits.specs.laws.Fields as Fields
use Rattle.bits.specs.laws.Fields.{IsGot}
use Rattle.bits.specs.laws.Readings as Readings

-- ---- the number of a field
module _ (s : List ℕ) where
  -- a field is some bits of the slice read as one big-endian number: drop what follows the field, keep its w bits
  pub as_number : Bytes s → (i w : ℕ) → i + w ≤ 8 * length s → number s i w ≡ big_endian s / 2 ^ (8 * length s - (i + w)) % 2 ^ w
  as_number = BigEndian.as_number s

  -- most significant first: bit k of a field, counted from its most significant, is bit i + k of the slice
  pub most_significant_first : (i w k : ℕ) → k < w → number s i w / 2 ^ (w - suc k) % 2 ≡ bit_at s (i + k)
  most_significant_first = Number.bit_of s

  -- a field of w bits is below 2^w
  pub below : (i w : ℕ) → number s i w < 2 ^ w
  below = Number.number_lt s

  -- without gaps: two consecutive fields joined are one field
  pub joined : (i a b : ℕ) → number s i (a + b) ≡ number s i a * 2 ^ b + number s (i + a) b
  joined = Number.number_append s

  -- eight bits at a byte's start are the byte
  pub aligned_byte : Bytes s → (k : ℕ) → number s (8 * k) 8 ≡ get_or s k 0
  aligned_byte h k = Number.number_byte s k (h k)

  -- bits past the end are 0: a bits up to the end and b past it are the a bits and b zeros
  pub zeros_past_the_end : (i a b : ℕ) → i + a ≡ 8 * length s → number s i (a + b) ≡ number s i a * 2 ^ b
  zeros_past_the_end = Slices.number_over s

-- ---- when a field is got, and where the cursor stands then
module _ (s : List ℕ) (i w : ℕ) where
  -- a field of at most 64 bits that the slice has, and past which a cursor can stand, is got
  pub whole_is_got : w ≤ 64 → i + w < 2 ^ 64 → i + w ≤ 8 * length s → field_at s i w ≡ Some (record { value = number s i w; next = record { at = i + w } })
  whole_is_got = Fields.field_in s i w

  -- no other is: what is got is the number there, the cursor stands right past it, and these three bounds hold
  pub got_is_whole : {v : ℕ} {next : Cursor} → field_at s i w ≡ Some (record { value = v; next = next }) → IsGot s i w v next
  got_is_whole = Fields.field_got s i w

  -- where a field that may stand there is cut, the slice lacks a bit of it
  pub cut_lacks_a_bit : w ≤ 64 → i + w < 2 ^ 64 → field_at s i w ≡ None → 8 * length s < i + w
  cut_lacks_a_bit = Fields.field_cut s i w

  -- where a field is got, taking it gives the same
  pub taken_is_got : {v : ℕ} {next : Cursor} → field_at s i w ≡ Some (record { value = v; next = next }) → taken_at s i w ≡ record { value = v; next = next }
  taken_is_got = Fields.take_got s i w

-- two fields got one after the other, of at most 64 bits together, are one field
pub consecutive_fields : (s : List ℕ) (i a b : ℕ) {v x : ℕ} {c d : Cursor} → a + b ≤ 64 → field_at s i a ≡ Some (record { value = v; next = c }) → field_at s c.at b ≡ Some (record { value = x; next = d }) → field_at s i (a + b) ≡ Some (record { value = v * 2 ^ b + x; next = d })
consecutive_fields = Fields.field_joined

-- ---- readings: 64 bits that the slice has, with v the number that they write
module _ (s : List ℕ) (i : ℕ) (near : i + 64 < 2 ^ 64) (whole : i + 64 ≤ 8 * length s) where
  -- below 2^63 the reading is v
  pub reading_low : number s i 64 < 2 ^ 63 → reading_at s i ≡ Some (record { value = pos (number s i 64); next = record { at = i + 64 } })
  reading_low h = Readings.reading_in s i near whole ∙ rw (Readings.pattern_low (number s i 64) h)

  -- from 2^63 on it is v - 2^64
  pub reading_high : 2 ^ 63 ≤ number s i 64 → reading_at s i ≡ Some (record { value = sub_ℕ (number s i 64) (2 ^ 64); next = record { at = i + 64 } })
  reading_high h = Readings.reading_in s i near whole ∙ rw (Readings.pattern_high (number s i 64) h (Number.number_lt s i 64))

  -- in one equation: the first bit weighs -2^63, the 63 after it as in any number
  pub reading_by_weights : reading_at s i ≡ Some (record { value = sub_ℕ (number s (i + 1) 63) (bit_at s i * 2 ^ 63); next = record { at = i + 64 } })
  reading_by_weights = Readings.reading_in s i near whole ∙ rw (Readings.pattern_of s i)

-- a slice that lacks one of the 64 bits has no reading there
pub reading_short : (s : List ℕ) (i : ℕ) → 8 * length s < i + 64 → reading_at s i ≡ None
reading_short = Readings.reading_short
