-- A whole number of 64 bits by its two's complement pattern: below 2^63 it is written as that number, from there on as a minus and what the pattern lacks
-- to 2^64; either takes at most 20 bytes. Assumes nothing.
use Rattle.std.specs.Prelude.{◌≡◌, [], ◌∷◌, ◌++◌, ℕ, suc, ◌+◌, ◌-◌, ◌^◌, ◌≤◌, ◌<◌, ℤ, pos, negsuc, length}
use Rattle.std.proofs.Common.{ap, arith, SFits, of_z}
use Rattle.std.specs.Int.{w64}
use Rattle.written.specs.Written.{decimal, signed}
use Rattle.written.proofs.laws.Decimal.{decimal_few}

pub signed_low : (z : ℤ) (p : ℕ) → SFits w64 z → p ≡ of_z w64 z → p < 2 ^ 63 → decimal p ≡ signed z
unfolding signed
signed_low (pos n) p f e h = ap decimal e
signed_low (negsuc n) p f e h = absurd (omega (arith, f.sfits))

pub signed_high : (z : ℤ) (p : ℕ) → SFits w64 z → p ≡ of_z w64 z → 2 ^ 63 ≤ p → (45 ∷ []) ++ decimal (18446744073709551615 - p + 1) ≡ signed z
unfolding signed
signed_high (pos n) p f e h = absurd (omega (arith, f.sfits))
signed_high (negsuc n) p f e h =
    let q : 18446744073709551615 - p + 1 ≡ suc n = omega (arith, f.sfits) in
    ap (λ (k : ℕ). 45 ∷ decimal k) q

pub signed_few : (z : ℤ) → SFits w64 z → length (signed z) ≤ 20
unfolding signed
signed_few (pos n) f = let l : length (decimal n) ≤ 19 = decimal_few 18 n (omega (arith, f.sfits)) in omega arith
signed_few (negsuc n) f = let l : length (decimal (suc n)) ≤ 19 = decimal_few 18 (suc n) (omega (arith, f.sfits)) in omega arith
