-- Laws of readings: 64 bits in two's complement. Assumes nothing.
use Rattle.std.proofs.Math.Path.{◌≡◌, refl, ap}
use Rattle.std.proofs.Common.{sym, ◌∙◌, to_z, lt-ltb, le-ltb}
use Rattle.std.specs.Prelude.{Option, Some, None, option_map, List, ℕ, zero, suc, ◌+◌, ◌-◌, ◌*◌, ◌^◌, ◌<◌, ◌≤◌, ℤ, pos, negsuc, length}
use native.Mathlib.Omega.{arith}
use Rattle.std.proofs.Math.IntN.{sub_ℕ}
use Rattle.std.specs.Int.{w64}
use Rattle.std.proofs.Math.Facts.{to_z_pos}
use Rattle.bits.specs.declared.Cursor.{Cursor}
use Rattle.bits.specs.declared.Taken.{Taken}
use Rattle.bits.specs.Bits.{bit_at, number, field_at, signed, reading_at}
use Rattle.bits.specs.laws.Number.{bit_lt, number_lt, number_one, number_append}
use Rattle.bits.specs.laws.Fields.{field_in, field_short, field_got}

-- a pattern below 2^63 is itself
pub pattern_low : (v : ℕ) → v < 2 ^ 63 → to_z w64 v ≡ pos v
pattern_low v h = to_z_pos w64 h

-- another is 2^64 less
pub pattern_high : (v : ℕ) → 2 ^ 63 ≤ v → v < 2 ^ 64 → to_z w64 v ≡ sub_ℕ v (2 ^ 64)
pattern_high v h l = simp (le-ltb v (2 ^ 63) h, lt-ltb v (2 ^ 64) l)

-- a top bit b and the 63 bits m below it: the top bit weighs -2^63
pub top_bit : (b m : ℕ) → b < 2 → m < 2 ^ 63 → to_z w64 (b * 2 ^ 63 + m) ≡ sub_ℕ m (b * 2 ^ 63)
top_bit zero m h l =
    let e : 0 * 2 ^ 63 + m ≡ m = omega arith in
    let d : m - 0 ≡ m = omega arith in
    ap (to_z w64) e ∙ pattern_low m l ∙ sym (simp (le-ltb m 0 (omega arith)) (ap pos d))
top_bit (suc zero) m h l =
    let e : 2 ^ 64 - suc (1 * 2 ^ 63 + m) ≡ 2 ^ 63 - suc m = omega arith in
    simp (le-ltb (1 * 2 ^ 63 + m) (2 ^ 63) (omega arith), lt-ltb m (2 ^ 63) l) (ap negsuc e)
top_bit (suc (suc b)) m h l = let z : ⊥ = omega arith in absurd z

-- what is known of a reading that was read
pub record IsRead (s : List ℕ) (i : ℕ) (x : ℤ) (next : Cursor) : Type 0 where
  pub value : x ≡ to_z w64 (number s i 64)
  pub past : next ≡ record { at = i + 64 }
  pub near : i + 64 < 2 ^ 64
  pub whole : i + 64 ≤ 8 * length s

module _ (s : List ℕ) (i : ℕ) where
  -- a reading that the slice has
  pub reading_in : i + 64 < 2 ^ 64 → i + 64 ≤ 8 * length s → reading_at s i ≡ Some (record { value = to_z w64 (number s i 64); next = record { at = i + 64 } })
  unfolding reading_at
  reading_in l k = ap (option_map signed) (field_in s i 64 (omega arith) l k)

  -- 64 bits as a pattern: the first weighs -2^63
  pub pattern_of : to_z w64 (number s i 64) ≡ sub_ℕ (number s (i + 1) 63) (bit_at s i * 2 ^ 63)
  pattern_of =
      let e : number s i 64 ≡ bit_at s i * 2 ^ 63 + number s (i + 1) 63 = number_append s i 1 63 ∙ rw (number_one s i) in
      ap (to_z w64) e ∙ top_bit (bit_at s i) (number s (i + 1) 63) (bit_lt s i) (number_lt s (i + 1) 63)

  -- one that it has not
  pub reading_short : 8 * length s < i + 64 → reading_at s i ≡ None
  unfolding reading_at
  reading_short k = ap (option_map signed) (field_short s i 64 k)

  -- a reading that is read is this one
  pub reading_read : {x : ℤ} {next : Cursor} → reading_at s i ≡ Some (record { value = x; next = next }) → IsRead s i x next
  unfolding reading_at
  reading_read {x} {next} e = go (field_at s i 64) refl e
    where
      apart : ◌≡◌ {A = ℕ} 0 1 → ⊥
      apart z = omega arith

      go : (f : Option (Taken ℕ)) → field_at s i 64 ≡ f → option_map signed f ≡ Some (record { value = x; next = next }) → IsRead s i x next
      go (Some t) p e =
          let g = field_got s i 64 p in
          let r : signed t ≡ record { value = x; next = next } = cc in
          let ex : to_z w64 t.value ≡ x = ap (λ (u : Taken ℤ). u.value) r in
          let en : t.next ≡ next = ap (λ (u : Taken ℤ). u.next) r in
          record { value = sym ex ∙ ap (to_z w64) g.value; past = sym en ∙ g.past; near = g.stand.near; whole = g.whole }
      go None p e = let z : ◌≡◌ {A = ℕ} 0 1 = cc in absurd (apart z)
