-- The bits of a slice write its big-endian number, and a field is some of its bits. Assumes nothing.
use Rattle.std.specs.Prelude.{◌≡◌, List, [], ◌∷◌, ℕ, suc, ◌+◌, ◌-◌, ◌*◌, ◌/◌, ◌%◌, ◌^◌, ◌≤◌, length}
use Rattle.std.proofs.Common.{sym, ap, ◌∙◌, zero-add, arith}
use Rattle.std.proofs.Math.Pow.{high, low}
use Rattle.bits.specs.Bits.{number}
use Rattle.bits.specs.BigEndian.{Bytes, big_endian}
use Rattle.bits.specs.laws.Number.{number_none, number_lt, number_append, number_byte}
use Rattle.bits.specs.laws.Slices.{number_drop}

-- all bits of a slice write that number
pub all_bits : (s : List ℕ) → Bytes s → number s 0 (8 * length s) ≡ big_endian s
unfolding big_endian
all_bits [] h = number_none [] 0
all_bits (b ∷ s) h =
    let e : 8 * length (b ∷ s) ≡ 8 + 8 * length s = omega arith in
    let first : number (b ∷ s) 0 8 ≡ b = number_byte (b ∷ s) 0 (h 0) in
    let rest : number (b ∷ s) 8 (8 * length s) ≡ big_endian s = sym (number_drop (b ∷ s) 1 0 (8 * length s)) ∙ all_bits s (λ k. h (suc k)) in
    ap (number (b ∷ s) 0) e ∙ number_append (b ∷ s) 0 8 (8 * length s) ∙ rw (first, rest)

module _ (s : List ℕ) where
  pub as_number : Bytes s → (i w : ℕ) → i + w ≤ 8 * length s → number s i w ≡ big_endian s / 2 ^ (8 * length s - (i + w)) % 2 ^ w
  as_number h i w l =
      let r = 8 * length s - (i + w) in
      let e : 8 * length s ≡ (i + w) + r = omega arith in
      let front : number s 0 (i + w) ≡ number s 0 i * 2 ^ w + number s i w = number_append s 0 i w ∙ ap (λ (j : ℕ). number s 0 i * 2 ^ w + number s j w) (zero-add i) in
      let all : big_endian s ≡ number s 0 (i + w) * 2 ^ r + number s (0 + (i + w)) r = sym (all_bits s h) ∙ ap (number s 0) e ∙ number_append s 0 (i + w) r in
      sym (low (number s 0 i) w (number_lt s i w)) ∙ ap (λ (x : ℕ). x % 2 ^ w) (sym front)
      ∙ ap (λ (x : ℕ). x % 2 ^ w) (sym (high (number s 0 (i + w)) r (number_lt s (0 + (i + w)) r))) ∙ ap (λ (x : ℕ). x / 2 ^ r % 2 ^ w) (sym all)
