-- Laws of the number that some bits write: how large it is, how it is joined of parts, and what it is in terms of bytes. Assumes nothing.
use Rattle.std.specs.Prelude.{◌≡◌, List}
use Rattle.std.proofs.Math.Path.{refl, sym, ap}
use Rattle.std.proofs.Common.{◌∙◌, add-one, lt_of_lt_of_le, pow-suc, add-zero, pow_mono, shr-shr}
use Prim.Native.Nat.{ℕ, zero, suc, ◌+◌, ◌-◌, ◌*◌, ◌/◌, ◌%◌, ◌^◌, ◌<◌, ◌≤◌}
use Rattle.std.proofs.Math.Nat.{mod-one, zero-add}
use native.Mathlib.Omega.{arith}
use Rattle.std.proofs.Math.ListN.{get_or}
use Rattle.std.proofs.Math.Pow.{mod-pow-add, high, low}
use Rattle.bits.specs.Bits.{bit_at, number}

module _ (s : List ℕ) where
  pub bit_lt : (i : ℕ) → bit_at s i < 2
  bit_lt i = omega arith

  -- w bits write a number below 2^w
  pub number_lt : (i w : ℕ) → number s i w < 2 ^ w
  unfolding number
  number_lt i zero = omega arith
  number_lt i (suc w) = omega (arith, number_lt i w, bit_lt (i + w))

  -- so up to 64 bits fit a word
  pub number_fits : (i w : ℕ) → w ≤ 64 → number s i w < 2 ^ 64
  number_fits i w h = lt_of_lt_of_le (number_lt i w) (pow_mono {j = 64} h)

  pub number_none : (i : ℕ) → number s i 0 ≡ 0
  unfolding number
  number_none i = refl

  pub number_one : (i : ℕ) → number s i 1 ≡ bit_at s i
  unfolding number
  number_one i = zero-add (bit_at s (i + 0)) ∙ ap (bit_at s) (add-zero i)

  -- a + b bits: the first a, moved up by b, and the b after them
  pub number_append : (i a b : ℕ) → number s i (a + b) ≡ number s i a * 2 ^ b + number s (i + a) b
  unfolding number
  number_append i a zero =
      let e : a + 0 ≡ a = omega arith in
      let f : number s i a ≡ number s i a * 1 + 0 = omega arith in
      ap (number s i) e ∙ f
  number_append i a (suc b) =
      let e : a + suc b ≡ suc (a + b) = omega arith in
      let g : i + (a + b) ≡ i + a + b = omega arith in
      ap (number s i) e ∙ ap (λ (n : ℕ). n * 2 + bit_at s (i + (a + b))) (number_append i a b) ∙ ap (λ (n : ℕ). (number s i a * 2 ^ b + number s (i + a) b) * 2 + bit_at s n) g
      ∙ regroup (number s i a) (number s (i + a) b) (bit_at s (i + a + b))
    where
      regroup : (x y z : ℕ) → (x * 2 ^ b + y) * 2 + z ≡ x * 2 ^ suc b + (y * 2 + z)
      regroup x y z = rw (pow-suc 2 b) (omega arith)

  -- the first w of more bits: those after them are shifted out
  pub number_front : (i w r : ℕ) → number s i (w + r) / 2 ^ r ≡ number s i w
  number_front i w r = ap (λ (x : ℕ). x / 2 ^ r) (number_append i w r) ∙ high (number s i w) r (number_lt (i + w) r)

  -- bit k of a field, counted from its most significant, is bit i + k of the slice
  pub bit_of : (i w k : ℕ) → k < w → number s i w / 2 ^ (w - suc k) % 2 ≡ bit_at s (i + k)
  bit_of i w k h =
      let r = w - suc k in
      let e : w ≡ k + 1 + r = omega arith in
      let up : number s i (k + 1) ≡ number s i k * 2 ^ 1 + bit_at s (i + k) = number_append i k 1 ∙ ap (λ (x : ℕ). number s i k * 2 ^ 1 + x) (number_one (i + k)) in
      ap (λ (x : ℕ). x / 2 ^ r % 2) (ap (number s i) e ∙ number_append i (k + 1) r) ∙ ap (λ (x : ℕ). x % 2) (high (number s i (k + 1)) r (number_lt (i + (k + 1)) r) ∙ up)
      ∙ low (number s i k) 1 (bit_lt (i + k))

  -- bits that lie in one byte: shift out what follows them, cut away what precedes them
  pub in_byte : (i n : ℕ) → i % 8 + n ≤ 8 → number s i n ≡ get_or s (i / 8) 0 / 2 ^ (8 - i % 8 - n) % 2 ^ n
  unfolding number
  in_byte i zero h = sym (mod-one (get_or s (i / 8) 0 / 2 ^ (8 - i % 8 - 0)))
  in_byte i (suc n) h =
      let m = 8 - i % 8 - suc n in
      let b = get_or s (i / 8) 0 in
      let e1 : 8 - i % 8 - n ≡ 8 - i % 8 - suc n + 1 = omega arith in
      let e2 : (i + n) / 8 ≡ i / 8 = omega arith in
      let e3 : 7 - (i + n) % 8 ≡ 8 - i % 8 - suc n = omega arith in
      let bit : bit_at s (i + n) ≡ b / 2 ^ m % 2 = rw (e2, e3) refl in
      let ih : number s i n ≡ b / 2 ^ (m + 1) % 2 ^ n = rw (← e1) (in_byte i n (omega arith)) in
      let two : b / 2 ^ m % 2 ^ (n + 1) ≡ b / 2 ^ (m + 1) % 2 ^ n * 2 + b / 2 ^ m % 2 = mod-pow-add (b / 2 ^ m) n 1 ∙ ap (λ (q : ℕ). q % 2 ^ n * 2 + b / 2 ^ m % 2) (shr-shr b m 1) in
      rw (ih, bit) (sym two ∙ ap (λ (k : ℕ). b / 2 ^ m % 2 ^ k) (add-one n))

  -- the eight bits of byte k are that byte
  pub number_byte : (k : ℕ) → get_or s k 0 < 256 → number s (8 * k) 8 ≡ get_or s k 0
  number_byte k h =
      let e1 : 8 * k % 8 ≡ 0 = omega arith in
      let e2 : 8 * k / 8 ≡ k = omega arith in
      in_byte (8 * k) 8 (omega arith) ∙ rw (e1, e2) (omega arith)
