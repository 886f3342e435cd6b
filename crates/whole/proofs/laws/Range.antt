-- The range of 64 bits: its two ends, the one bound that says the same, and what `reading` answers. Assumes nothing.
use Rattle.std.specs.Prelude.{◌≡◌, ◌^◌, ◌≤◌, Bool, true, cond, ◌&&◌, ◌⊎◌, ℤ, pos, negsuc, neg_ℤ, ◌≤ℤ◌, ◌<ℤ◌, FitsSigned, int_le, int_lt, nat_lt, refl, Some, None}
use Rattle.std.proofs.Common.{sym, ap, ◌∙◌, inl, inr, ⊎_elim, arith, le→leb, leb→le, lt→ltb, ltb→lt, lt-ltb, le-ltb, le-leb}
use Rattle.std.specs.Int.Signed.{mag, le_z_yes, lt_z_yes}
use Rattle.std.specs.Int.{w64}
use Rattle.std.proofs.lemmas.Bool.{lt-leb}
use Rattle.whole.specs.Whole.{Within, reading}
use Rattle.whole.proofs.laws.Ints.{split}

-- `SFits w64 z`, what a contract knows of an i64, is that z lies between the two ends
pub fits_within : (z : ℤ) → FitsSigned w64 z → Within z
fits_within (pos n) f = record { low = le_z_yes tt; high = lt_z_yes (lt→ltb n (2 ^ 63) f.sfits) }
fits_within (negsuc n) f = record { low = le_z_yes (le→leb n 9223372036854775807 (omega (arith, f.sfits))); high = lt_z_yes tt }

pub within_fits : (z : ℤ) → Within z → FitsSigned w64 z
within_fits (pos n) w = record { sfits = ltb→lt n (2 ^ 63) w.high.lt }
within_fits (negsuc n) w = record { sfits = omega (arith, leb→le n 9223372036854775807 w.low.le) }

-- the two tests of `reading` are the one bound of `mag z`, which is n for n and for -1 - n
pub range_test : (z : ℤ) → (int_le (neg_ℤ (pos (2 ^ 63))) z && int_lt z (pos (2 ^ 63))) ≡ nat_lt (mag z) (2 ^ 63)
range_test (pos n) = refl
range_test (negsuc n) =
    ⊎_elim
    (λ h. ap (λ (b : Bool). b && true) (le-leb n 9223372036854775807 (omega arith)) ∙ sym (lt-ltb n (2 ^ 63) h))
    (λ h. ap (λ (b : Bool). b && true) (lt-leb n 9223372036854775807 (omega arith)) ∙ sym (le-ltb n (2 ^ 63) h))
    (split n (2 ^ 63))

pub reading_by : (z : ℤ) → reading z ≡ cond (nat_lt (mag z) (2 ^ 63)) (Some z) None
unfolding reading
reading_by z = ap (λ (b : Bool). cond b (Some z) None) (range_test z)

pub reading_in : (z : ℤ) → FitsSigned w64 z → reading z ≡ Some z
reading_in z f = reading_by z ∙ ap (λ (b : Bool). cond b (Some z) None) (lt-ltb (mag z) (2 ^ 63) f.sfits)

pub reading_out : (z : ℤ) → 2 ^ 63 ≤ mag z → reading z ≡ None
reading_out z h = reading_by z ∙ ap (λ (b : Bool). cond b (Some z) None) (le-ltb (mag z) (2 ^ 63) h)

-- what does not fit is no reading
pub reading_not : (z : ℤ) → (FitsSigned w64 z → ⊥) → reading z ≡ None
reading_not z n = ⊎_elim (λ h. absurd (n (record { sfits = h }))) (reading_out z) (split (mag z) (2 ^ 63))

-- what is Some is the number itself, and fits
pub in_reading : (z u : ℤ) → reading z ≡ Some u → (z ≡ u) × FitsSigned w64 z
in_reading z u e = ⊎_elim (λ h. let f : FitsSigned w64 z = record { sfits = h } in let k : Some z ≡ Some u = sym (reading_in z f) ∙ e in (cc, f)) (λ h. let k : None ≡ Some u = sym (reading_out z h) ∙ e in cc) (split (mag z) (2 ^ 63))

-- what is None does not fit
pub out_reading : (z : ℤ) → reading z ≡ None → FitsSigned w64 z → ⊥
out_reading z e f = let k : Some z ≡ None = sym (reading_in z f) ∙ e in cc

-- outside the range is below the one end or not below the other
pub outside_out : (z : ℤ) → (z <ℤ neg_ℤ (pos (2 ^ 63))) ⊎ (pos (2 ^ 63) ≤ℤ z) → reading z ≡ None
outside_out z o = reading_out z (⊎_elim (below z) (above z) o)
  where
    below : (z : ℤ) → z <ℤ neg_ℤ (pos (2 ^ 63)) → 2 ^ 63 ≤ mag z
    below (pos n) h = absurd h.lt
    below (negsuc n) h = omega (arith, ltb→lt 9223372036854775807 n h.lt)

    above : (z : ℤ) → pos (2 ^ 63) ≤ℤ z → 2 ^ 63 ≤ mag z
    above (pos n) h = leb→le (2 ^ 63) n h.le
    above (negsuc n) h = absurd h.le

pub out_outside : (z : ℤ) → reading z ≡ None → (z <ℤ neg_ℤ (pos (2 ^ 63))) ⊎ (pos (2 ^ 63) ≤ℤ z)
out_outside z e = ⊎_elim (λ h. absurd (out_reading z e (record { sfits = h }))) (λ h. side z h) (split (mag z) (2 ^ 63))
  where
    side : (z : ℤ) → 2 ^ 63 ≤ mag z → (z <ℤ neg_ℤ (pos (2 ^ 63))) ⊎ (pos (2 ^ 63) ≤ℤ z)
    side (pos n) h = inr (le_z_yes (le→leb (2 ^ 63) n h))
    side (negsuc n) h = inl (lt_z_yes (lt→ltb 9223372036854775807 n (omega arith)))
