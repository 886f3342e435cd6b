-- The keys of readings: x + 2^63, in the order of the readings. Assumes nothing.
use Rattle.std.specs.Prelude.{◌≡◌, ℕ, suc, ◌+◌, ◌-◌, ◌^◌, ◌<◌, ℤ, pos, negsuc, ◌+ℤ◌, FitsSigned, int_le, int_lt, nat_le, nat_lt, refl}
use Rattle.std.proofs.Common.{sym, ap, ◌∙◌, ⊎_elim, arith, lt-ltb, le-ltb, le-leb}
use Rattle.std.proofs.Math.IntN.{sub_ℕ}
use Rattle.std.specs.Int.{w64}
use Rattle.std.proofs.lemmas.Bool.{lt-leb}
use Rattle.whole.specs.Whole.{excess, of_excess}
use Rattle.whole.proofs.laws.Ints.{split, sub_eq, sub_pos, sub_neg, pos_sub, negsuc_sub}

pub excess_is : (x : ℤ) → FitsSigned w64 x → x ≡ sub_ℕ (excess x) (2 ^ 63)
unfolding excess
excess_is (pos n) f = pos_sub n ∙ sub_eq n 0 (2 ^ 63 + n) (2 ^ 63) (omega arith)
excess_is (negsuc n) f = negsuc_sub n ∙ sub_eq 0 (suc n) (2 ^ 63 - suc n) (2 ^ 63) (omega (arith, f.sfits))

-- a key is x + 2^63, and fits 64 bits
pub excess_sum : (x : ℤ) → FitsSigned w64 x → pos (excess x) ≡ x +ℤ pos (2 ^ 63)
unfolding excess
excess_sum (pos n) f = ap pos (omega arith)
excess_sum (negsuc n) f = sym (sub_pos (2 ^ 63) (suc n) f.sfits)

pub excess_lt : (x : ℤ) → FitsSigned w64 x → excess x < 2 ^ 64
unfolding excess
excess_lt (pos n) f = omega (arith, f.sfits)
excess_lt (negsuc n) f = omega (arith, f.sfits)

-- the reading of a key
pub of_excess_is : (k : ℕ) → of_excess k ≡ sub_ℕ k (2 ^ 63)
unfolding of_excess
of_excess_is k = refl

pub of_excess_fits : (k : ℕ) → k < 2 ^ 64 → FitsSigned w64 (of_excess k)
of_excess_fits k h =
    ⊎_elim (λ l. rw (of_excess_is k, sub_neg k (2 ^ 63) l) (record { sfits = omega arith }))
    (λ l. rw (of_excess_is k, sub_pos k (2 ^ 63) l) (record { sfits = omega arith })) (split k (2 ^ 63))

pub of_excess_excess : (x : ℤ) → FitsSigned w64 x → of_excess (excess x) ≡ x
of_excess_excess x f = of_excess_is (excess x) ∙ sym (excess_is x f)

pub excess_of_excess : (k : ℕ) → k < 2 ^ 64 → excess (of_excess k) ≡ k
unfolding excess
excess_of_excess k h =
    ⊎_elim (λ l. ap excess (of_excess_is k ∙ sub_neg k (2 ^ 63) l) ∙ (omega arith))
    (λ l. ap excess (of_excess_is k ∙ sub_pos k (2 ^ 63) l) ∙ (omega arith)) (split k (2 ^ 63))

-- the order of readings is that of their keys
pub lt_key : (a b : ℤ) → FitsSigned w64 a → FitsSigned w64 b → int_lt a b ≡ nat_lt (excess a) (excess b)
unfolding excess
lt_key (pos a) (pos b) fa fb = ⊎_elim (λ h. lt-ltb a b h ∙ sym (lt-ltb (2 ^ 63 + a) (2 ^ 63 + b) (omega arith))) (λ h. le-ltb a b h ∙ sym (le-ltb (2 ^ 63 + a) (2 ^ 63 + b) (omega arith))) (split a b)
lt_key (pos a) (negsuc b) fa fb = sym (le-ltb (2 ^ 63 + a) (2 ^ 63 - suc b) (omega arith))
lt_key (negsuc a) (pos b) fa fb = sym (lt-ltb (2 ^ 63 - suc a) (2 ^ 63 + b) (omega (arith, fa.sfits)))
lt_key (negsuc a) (negsuc b) fa fb =
    ⊎_elim (λ h. lt-ltb b a h ∙ sym (lt-ltb (2 ^ 63 - suc a) (2 ^ 63 - suc b) (omega (arith, fa.sfits, fb.sfits))))
    (λ h. le-ltb b a h ∙ sym (le-ltb (2 ^ 63 - suc a) (2 ^ 63 - suc b) (omega (arith, fa.sfits, fb.sfits)))) (split b a)

pub le_key : (a b : ℤ) → FitsSigned w64 a → FitsSigned w64 b → int_le a b ≡ nat_le (excess a) (excess b)
unfolding excess
le_key (pos a) (pos b) fa fb = ⊎_elim (λ h. lt-leb a b h ∙ sym (lt-leb (2 ^ 63 + a) (2 ^ 63 + b) (omega arith))) (λ h. le-leb a b h ∙ sym (le-leb (2 ^ 63 + a) (2 ^ 63 + b) (omega arith))) (split b a)
le_key (pos a) (negsuc b) fa fb = sym (lt-leb (2 ^ 63 + a) (2 ^ 63 - suc b) (omega arith))
le_key (negsuc a) (pos b) fa fb = sym (le-leb (2 ^ 63 - suc a) (2 ^ 63 + b) (omega arith))
le_key (negsuc a) (negsuc b) fa fb =
    ⊎_elim (λ h. lt-leb b a h ∙ sym (lt-leb (2 ^ 63 - suc a) (2 ^ 63 - suc b) (omega (arith, fa.sfits, fb.sfits))))
    (λ h. le-leb b a h ∙ sym (le-leb (2 ^ 63 - suc a) (2 ^ 63 - suc b) (omega (arith, fa.sfits, fb.sfits)))) (split a b)
