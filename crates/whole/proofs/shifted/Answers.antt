-- `whole::shifted` meets its contract: as numbers of 64 bits, what is left of t - x is 2^64 too large where t is below x, and the key of y carries where the sum is
-- not below -2^63 then, or is above 2^63 - 1 otherwise. Assumes nothing.
use Rattle.std.specs.Prelude.{◌≡◌, ℕ, ◌+◌, ◌-◌, ◌*◌, ◌%◌, ◌<◌, Bool, true, false, not, ℤ, pos, negsuc, ◌+ℤ◌, ◌-ℤ◌, ◌≤ℤ◌, ◌<ℤ◌, FitsSigned, refl, Some, None}
use Rattle.std.proofs.Common.{sym, ap, ◌∙◌, subst, arith, to_z, of_z, to_z-of_z}
use mathlib.Core.Bool.{beq}
use lib.Signed.{lt_z, le_z}
use Rattle.std.specs.Bool.{FalseIff}
use Rattle.std.specs.Int.{w64}
use Rattle.std.proofs.lemmas.Int.{ints, of_z-to_z}
use Rattle.std.proofs.lemmas.Bool.{false≢true}
use Rattle.whole.specs.Whole.{excess, shifted_of}
use Rattle.whole.proofs.laws.Keys.{excess_sum}
use Rattle.whole.proofs.laws.Order.{lt_is, test_lt, test_le}
use Rattle.whole.proofs.laws.Range.{fits_within, within_fits, reading_in, reading_not}
use Rattle.whole.proofs.laws.Sums.{shifted_is}
use Rattle.whole.proofs.shifted.Goals as goal

-- a reading's bits as a number are the reading itself, or 2^64 more
near : (x : ℤ) → FitsSigned w64 x → (i : ℕ) × (pos (of_z w64 x) ≡ x +ℤ pos (i * 18446744073709551616))
near (pos n) f = (0, omega (arith, ints))
near (negsuc n) f = (1, omega (arith, ints, f.sfits))

-- the order that a test tells
abbrev Ordered : ℤ → ℤ → Bool → Type 0
Ordered t x true = t <ℤ x
Ordered t x false = x ≤ℤ t

ordered : (t x : ℤ) (b : Bool) → lt_z t x ≡ b → Ordered t x b
ordered t x b e = go (le_z x t) refl b (sym (lt_is t x) ∙ e)
  where
    go : (c : Bool) → le_z x t ≡ c → (b : Bool) → not c ≡ b → Ordered t x b
    go true q true e = absurd (false≢true e)
    go true q false e = test_le x t q
    go false q true e = test_lt t x q
    go false q false e = absurd (false≢true (sym e))

module _ (t x y : ℤ) (f : FitsSigned w64 t) (g : FitsSigned w64 x) (h : FitsSigned w64 y) where
  -- what the two steps leave of t - x, as a number
  abbrev left : ℕ
  left = (of_z w64 t + (18446744073709551616 - of_z w64 x)) % 18446744073709551616

  abbrev Kept : Bool → Type 0
  Kept carry = FalseIff carry (left + excess y < 18446744073709551616)

  agree : (b carry : Bool) → Ordered t x b → Kept carry → beq b carry ≡ true → FitsSigned w64 (t +ℤ y -ℤ x)
  agree true true o k e =
      within_fits _ (record { low = omega (arith, ints, near t f, near x g, excess_sum y h, o, k); high = omega (arith, ints, o, fits_within y h) })
  agree false false o k e =
      within_fits _ (record { low = omega (arith, ints, o, fits_within y h); high = omega (arith, ints, near t f, near x g, excess_sum y h, o, k) })
  agree true false o k e = absurd (false≢true e)
  agree false true o k e = absurd (false≢true e)

  differ : (b carry : Bool) → Ordered t x b → Kept carry → beq b carry ≡ false → FitsSigned w64 (t +ℤ y -ℤ x) → ⊥
  differ true true o k e all = false≢true (sym e)
  differ false false o k e all = false≢true (sym e)
  differ true false o k e all = omega (arith, ints, near t f, near x g, excess_sum y h, o, k, fits_within _ all)
  differ false true o k e all = omega (arith, ints, near t f, near x g, excess_sum y h, o, k, fits_within _ all)

  sum_is : FitsSigned w64 (t +ℤ y -ℤ x) → to_z w64 ((left + of_z w64 y) % 18446744073709551616) ≡ t +ℤ y -ℤ x
  sum_is all =
      let e : (left + of_z w64 y) % 18446744073709551616 ≡ of_z w64 (t +ℤ y -ℤ x) = omega (arith, ints, near t f, near x g, near y h, near _ all) in
      ap (to_z w64) e ∙ to_z-of_z all

  -- the test, as the code makes it
  module _ (p k : ℕ) (lt : Bool) (carry : Bool) (ep : p ≡ of_z w64 (to_z w64 left)) (ek : k ≡ excess (to_z w64 (of_z w64 y))) (over : FalseIff carry (p + k < 18446744073709551616)) where
    kept : Kept carry
    kept = subst (λ n. FalseIff carry (n < 18446744073709551616)) (ap (λ n. n + k) (ep ∙ of_z-to_z w64 left (omega arith)) ∙ ap (λ n. left + n) (ek ∙ ap excess (to_z-of_z h))) over

    held : lt ≡ lt_z (to_z w64 (of_z w64 t)) (to_z w64 (of_z w64 x)) → beq lt carry ≡ true → Some (to_z w64 ((left + of_z w64 y) % 18446744073709551616)) ≡ shifted_of t x y
    held is e =
        let all = agree lt carry (ordered t x lt (sym (rw (to_z-of_z f, to_z-of_z g) at is))) kept e in
        ap Some (sum_is all) ∙ sym (reading_in _ all) ∙ sym (shifted_is t x y)

    gone : lt ≡ lt_z (to_z w64 (of_z w64 t)) (to_z w64 (of_z w64 x)) → beq lt carry ≡ false → None ≡ shifted_of t x y
    gone is e = sym (reading_not _ (differ lt carry (ordered t x lt (sym (rw (to_z-of_z f, to_z-of_z g) at is))) kept e)) ∙ sym (shifted_is t x y)

pub returns-then-t-x : goal.returns-then-t-x
returns-then-t-x c =
    held c.args.t c.args.x c.args.y c.ranges.t c.ranges.x c.ranges.y c.pattern_of.result c.key.result _ c.overflowing_add-carry.result.1 c.pattern_of.ensures c.key.ensures
    c.overflowing_add-carry.ensures.overflow refl c.if-t-x.true

pub returns-else-t-x : goal.returns-else-t-x
returns-else-t-x c =
    gone c.args.t c.args.x c.args.y c.ranges.t c.ranges.x c.ranges.y c.pattern_of.result c.key.result _ c.overflowing_add-carry.result.1 c.pattern_of.ensures c.key.ensures
    c.overflowing_add-carry.ensures.overflow refl c.if-t-x.false
