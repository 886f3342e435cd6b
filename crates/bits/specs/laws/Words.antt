-- Laws of reading many bits at once: bytes in a row as one number, and 64 bits that start within a byte. Assumes nothing.
use Rattle.std.specs.Prelude.{◌≡◌, List, [], ◌∷◌, ℕ, ◌+◌, ◌-◌, ◌*◌, ◌/◌, ◌%◌, ◌^◌, ◌<◌, ◌≤◌, get_or}
use Rattle.std.proofs.Common.{sym, ap, ◌∙◌, arith, pow-add, shl_lt}
use Rattle.std.proofs.Math.Pow.{shr_mod, low}
use Rattle.std.specs.Int.{w64, from_be_bytes}
use Rattle.bits.specs.Bits.{number}
use Rattle.bits.specs.BigEndian.{Bytes}
use Rattle.bits.specs.laws.Number.{number_lt, number_append, number_byte, in_byte}

module _ (s : List ℕ) (i : ℕ) where
  -- one byte more: the bytes so far moved up by eight bits, and that byte
  pub byte_more : (n : ℕ) → get_or s (i + n) 0 < 256 → number s (8 * i) (8 * n + 8) ≡ number s (8 * i) (8 * n) * 256 + get_or s (i + n) 0
  byte_more n h =
      let e : 8 * i + 8 * n ≡ 8 * (i + n) = omega arith in
      number_append s (8 * i) (8 * n) 8 ∙ rw (e, number_byte s (i + n) h)

  -- eight bytes, the first the most significant, are 64 bits
  pub eight_bytes : Bytes s → from_be_bytes w64 (get_or s i 0 ∷ get_or s (i + 1) 0 ∷ get_or s (i + 2) 0 ∷ get_or s (i + 3) 0 ∷ get_or s (i + 4) 0 ∷ get_or s (i + 5) 0 ∷ get_or s (i + 6) 0 ∷ get_or s (i + 7) 0 ∷ []) ≡ number s (8 * i) 64
  eight_bytes b =
      let one : number s (8 * i) 8 ≡ get_or s i 0 = number_byte s i (b i) in
      let two : number s (8 * i) 16 ≡ number s (8 * i) 8 * 256 + get_or s (i + 1) 0 = byte_more 1 (b (i + 1)) in
      let three : number s (8 * i) 24 ≡ number s (8 * i) 16 * 256 + get_or s (i + 2) 0 = byte_more 2 (b (i + 2)) in
      let four : number s (8 * i) 32 ≡ number s (8 * i) 24 * 256 + get_or s (i + 3) 0 = byte_more 3 (b (i + 3)) in
      let five : number s (8 * i) 40 ≡ number s (8 * i) 32 * 256 + get_or s (i + 4) 0 = byte_more 4 (b (i + 4)) in
      let six : number s (8 * i) 48 ≡ number s (8 * i) 40 * 256 + get_or s (i + 5) 0 = byte_more 5 (b (i + 5)) in
      let seven : number s (8 * i) 56 ≡ number s (8 * i) 48 * 256 + get_or s (i + 6) 0 = byte_more 6 (b (i + 6)) in
      let eight : number s (8 * i) 64 ≡ number s (8 * i) 56 * 256 + get_or s (i + 7) 0 = byte_more 7 (b (i + 7)) in
      omega arith

  module _ (r : ℕ) (h : r ≤ 8) where
    -- eight bytes shifted up by r in a word: the first r bits are lost, and the 64 - r after them stand over r zeros
    pub shifted : number s (8 * i) 64 * 2 ^ r % 2 ^ 64 ≡ number s (8 * i + r) (64 - r) * 2 ^ r
    shifted =
        let q = 64 - r in
        let a = number s (8 * i) r in
        let b = number s (8 * i + r) q in
        let e : 64 ≡ r + q = omega arith in
        let f : q + r ≡ 64 = omega arith in
        let parts : number s (8 * i) 64 ≡ a * 2 ^ q + b = ap (number s (8 * i)) e ∙ number_append s (8 * i) r q in
        let up : 2 ^ q * 2 ^ r ≡ 2 ^ 64 = sym (pow-add 2 q r) ∙ ap (λ (k : ℕ). 2 ^ k) f in
        let fits : b * 2 ^ r < 2 ^ 64 = rw f at (shl_lt q r (number_lt s (8 * i + r) q)) in
        ap (λ (x : ℕ). x * 2 ^ r % 2 ^ 64) parts ∙ ap (λ (x : ℕ). x % 2 ^ 64) (regroup a (2 ^ q) b (2 ^ r) ∙ ap (λ (x : ℕ). a * x + b * 2 ^ r) up) ∙ low a 64 fits
      where
        regroup : (a x b y : ℕ) → (a * x + b) * y ≡ a * (x * y) + b * y
        regroup a x b y = omega arith

    -- the first r bits of byte i + 8
    pub ninth : get_or s (i + 8) 0 < 256 → number s (8 * i + 64) r ≡ get_or s (i + 8) 0 / 2 ^ (8 - r)
    ninth l =
        let e : 8 * i + 64 ≡ 8 * (i + 8) = omega arith in
        let m : 8 * (i + 8) % 8 ≡ 0 = omega arith in
        let d : 8 * (i + 8) / 8 ≡ i + 8 = omega arith in
        let k : r + (8 - r) ≡ 8 = omega arith in
        let n : get_or s (i + 8) 0 < 2 ^ (r + (8 - r)) = rw k l in
        rw e (in_byte s (8 * (i + 8)) r (omega arith) ∙ cut m d (shr_mod r (8 - r) n))
      where
        cut : {m d x : ℕ} → m ≡ 0 → d ≡ i + 8 → get_or s (i + 8) 0 / 2 ^ (8 - r) % 2 ^ r ≡ x → get_or s d 0 / 2 ^ (8 - m - r) % 2 ^ r ≡ x
        cut m d e = rw (m, d) e

    -- so 64 bits that start r bits into byte i are eight bytes shifted, and what the ninth adds
    pub word_at : get_or s (i + 8) 0 < 256 → number s (8 * i + r) 64 ≡ number s (8 * i) 64 * 2 ^ r % 2 ^ 64 + get_or s (i + 8) 0 / 2 ^ (8 - r)
    word_at l =
        let e : 64 ≡ 64 - r + r = omega arith in
        let f : 8 * i + r + (64 - r) ≡ 8 * i + 64 = omega arith in
        let parts : number s (8 * i + r) 64 ≡ number s (8 * i + r) (64 - r) * 2 ^ r + number s (8 * i + r + (64 - r)) r = ap (number s (8 * i + r)) e ∙ number_append s (8 * i + r) (64 - r) r in
        parts ∙ rw (f, shifted, ninth l)
