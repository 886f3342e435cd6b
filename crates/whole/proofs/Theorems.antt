-- What is proved of the definitions in Whole and Pairs, in words that need no search. Assumes nothing.
use Rattle.std.specs.Prelude.{◌≡◌, ℕ, ◌^◌, ◌<◌, ◌≤◌, ◌⊎◌, List, [], length, ℤ, pos, ◌+ℤ◌, ◌-ℤ◌, neg_ℤ, ◌≤ℤ◌, ◌<ℤ◌, FitsSigned, int_lt, nat_lt, refl, Some, None}
use Rattle.std.proofs.Common.{sym, ◌∙◌}
use Rattle.std.specs.Int.{w64}
use Rattle.whole.specs.Whole.{Within, shifted_of, excess, of_excess}
use Rattle.whole.specs.Pairs.{Pair, xs_of, ys_of, pairs, place_for, carried_by, converted, converted_back, nth, Carries}
use Rattle.whole.proofs.laws.Range.{fits_within, within_fits, outside_out, out_outside}
use Rattle.whole.proofs.laws.Keys.{excess_sum, of_excess_excess, excess_of_excess, lt_key}
use Rattle.whole.proofs.laws.Sums.{shifted_is, shifted_in, in_shifted, shifted_back}
use Rattle.whole.proofs.laws.Places.{place_carries, carries_place}
use Rattle.whole.proofs.laws.Lists.{pairs_of, converted_at, converted_pairs_at, converted_back_pairs}

-- ---- the range

-- Every i64 lies within 64 bits, and what lies within is an i64's value: `SFits w64 z` is what a contract knows of one.
pub i64_within : (z : ℤ) → FitsSigned w64 z → Within z
i64_within = fits_within

pub within_i64 : (z : ℤ) → Within z → FitsSigned w64 z
within_i64 = within_fits

-- ---- the exact sum

-- The answer is Some u exactly if t + y - x is u and 64 bits hold u.
pub sum_in : (t x y u : ℤ) → t +ℤ y -ℤ x ≡ u → Within u → shifted_of t x y ≡ Some u
sum_in t x y u e w = shifted_in t x y u e (within_fits u w)

pub in_sum : (t x y u : ℤ) → shifted_of t x y ≡ Some u → (t +ℤ y -ℤ x ≡ u) × Within u
in_sum t x y u e = let k = in_shifted t x y u e in (k.0, fits_within u k.1)

-- It is None exactly if t + y - x is below -2^63, or 2^63 or more.
pub sum_out : (t x y : ℤ) → ((t +ℤ y -ℤ x) <ℤ neg_ℤ (pos (2 ^ 63))) ⊎ (pos (2 ^ 63) ≤ℤ (t +ℤ y -ℤ x)) → shifted_of t x y ≡ None
sum_out t x y o = shifted_is t x y ∙ outside_out (t +ℤ y -ℤ x) o

pub out_sum : (t x y : ℤ) → shifted_of t x y ≡ None → ((t +ℤ y -ℤ x) <ℤ neg_ℤ (pos (2 ^ 63))) ⊎ (pos (2 ^ 63) ≤ℤ (t +ℤ y -ℤ x))
out_sum t x y e = out_outside (t +ℤ y -ℤ x) (sym (shifted_is t x y) ∙ e)

-- A reading that (x, y) carries over is carried back by (y, x).
pub back : (t x y u : ℤ) → Within t → shifted_of t x y ≡ Some u → shifted_of u y x ≡ Some t
back t x y u w e = shifted_back t x y u (within_fits t w) e

-- ---- keys

-- The key of a reading is the reading and 2^63.
pub key_is : (z : ℤ) → Within z → pos (excess z) ≡ z +ℤ pos (2 ^ 63)
key_is z w = excess_sum z (within_fits z w)

-- Readings and keys answer to each other.
pub key_back : (z : ℤ) → Within z → of_excess (excess z) ≡ z
key_back z w = of_excess_excess z (within_fits z w)

pub back_key : (k : ℕ) → k < 2 ^ 64 → excess (of_excess k) ≡ k
back_key = excess_of_excess

-- Keys are in the order of their readings.
pub key_order : (a b : ℤ) → Within a → Within b → int_lt a b ≡ nat_lt (excess a) (excess b)
key_order a b v w = lt_key a b (within_fits a v) (within_fits b w)

-- ---- the place that carries a reading

-- "take the greatest x at most t, else the smallest x; of equals the first listed": in a list that is not empty, `place_for` is such a place,
pub place_is : (t : ℤ) (xs : List ℤ) → 0 < length xs → Carries t xs (place_for t xs)
place_is = place_carries

-- and every such place is `place_for`, so that a search of another kind that ends at such a place has the same answer.
pub place_only : (t : ℤ) (xs : List ℤ) (i : ℕ) → Carries t xs i → place_for t xs ≡ i
place_only = carries_place

-- ---- conversion

-- The place that carries t converts it: t + y - x of the correspondence there.
pub convert_at : (t : ℤ) (ps : List Pair) (i : ℕ) → Carries t (xs_of ps) i → converted t ps ≡ shifted_of t (nth (xs_of ps) i) (nth (ys_of ps) i)
convert_at = converted_at

-- The same of two lists of readings, where each x has its y.
pub convert_pairs_at : (t : ℤ) (xs ys : List ℤ) (i : ℕ) → length xs ≤ length ys → Carries t xs i → converted t (pairs xs ys) ≡ shifted_of t (nth xs i) (nth ys i)
convert_pairs_at = converted_pairs_at

-- A list of correspondences is that of its xs and its ys.
pub pairs_are : (ps : List Pair) → pairs (xs_of ps) (ys_of ps) ≡ ps
pairs_are = pairs_of

-- Without a correspondence nothing carries t.
pub convert_none : (t : ℤ) → converted t [] ≡ None
unfolding converted carried_by
convert_none t = refl

-- Backwards, the two lists change places.
pub convert_back_is : (u : ℤ) (xs ys : List ℤ) → converted_back u (pairs xs ys) ≡ converted u (pairs ys xs)
convert_back_is = converted_back_pairs
