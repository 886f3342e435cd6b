-- Worked examples, by computing. Assumes nothing.
use Rattle.std.specs.Prelude.{◌≡◌, refl, Some, None, List, [], ◌∷◌, ℕ, pos, negsuc}
use Rattle.bits.specs.Bits.{number, may_stand, inside, field_at, taken_at, reading_at}

-- 1010 0101 0000 1111
abbrev two : List ℕ
two = 0xa5 ∷ 0x0f ∷ []

-- ---- fields
first_nibble : field_at two 0 4 ≡ Some (record { value = 0b1010; next = record { at = 4 } })
unfolding field_at may_stand inside number
first_nibble = refl

across_bytes : field_at two 4 10 ≡ Some (record { value = 0b0101000011; next = record { at = 14 } })
unfolding field_at may_stand inside number
across_bytes = refl

-- up to the last bit, and one bit too many
to_the_end : field_at two 7 9 ≡ Some (record { value = 0b100001111; next = record { at = 16 } })
unfolding field_at may_stand inside number
to_the_end = refl

one_too_many : field_at two 8 9 ≡ None
unfolding field_at may_stand inside number
one_too_many = refl

-- no bits at the end are there, past the end they are not
none_at_the_end : field_at two 16 0 ≡ Some (record { value = 0; next = record { at = 16 } })
unfolding field_at may_stand inside number
none_at_the_end = refl

none_past_the_end : field_at two 17 0 ≡ None
unfolding field_at may_stand inside number
none_past_the_end = refl

-- ---- fields taken with zeros past the end
over_the_end : taken_at two 12 8 ≡ record { value = 0b11110000; next = record { at = 20 } }
unfolding taken_at may_stand number
over_the_end = refl

too_wide : taken_at two 0 65 ≡ record { value = 0; next = record { at = 0 } }
unfolding taken_at may_stand number
too_wide = refl

too_far : taken_at two 0xffffffffffffffff 1 ≡ record { value = 0; next = record { at = 0xffffffffffffffff } }
unfolding taken_at may_stand number
too_far = refl

-- ---- readings at bit 3
minus_one : reading_at (0x1f ∷ 0xff ∷ 0xff ∷ 0xff ∷ 0xff ∷ 0xff ∷ 0xff ∷ 0xff ∷ 0xe0 ∷ []) 3 ≡ Some (record { value = negsuc 0; next = record { at = 67 } })
unfolding reading_at field_at may_stand inside number
minus_one = refl

least : reading_at (0x10 ∷ 0x00 ∷ 0x00 ∷ 0x00 ∷ 0x00 ∷ 0x00 ∷ 0x00 ∷ 0x00 ∷ 0x00 ∷ []) 3 ≡ Some (record { value = negsuc 0x7fffffffffffffff; next = record { at = 67 } })
unfolding reading_at field_at may_stand inside number
least = refl

greatest : reading_at (0x0f ∷ 0xff ∷ 0xff ∷ 0xff ∷ 0xff ∷ 0xff ∷ 0xff ∷ 0xff ∷ 0xe0 ∷ []) 3 ≡ Some (record { value = pos 0x7fffffffffffffff; next = record { at = 67 } })
unfolding reading_at field_at may_stand inside number
greatest = refl

cut_short : reading_at (0x1f ∷ 0xff ∷ 0xff ∷ 0xff ∷ 0xff ∷ 0xff ∷ 0xff ∷ 0xff ∷ []) 1 ≡ None
unfolding reading_at field_at may_stand inside number
cut_short = refl
