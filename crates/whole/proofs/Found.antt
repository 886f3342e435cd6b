-- The conversion by the place k that `pick` found in the part of the xs from 0 to n, where n is how far both lists go. Assumes nothing.
use Rattle.std.specs.Prelude.{slice_get, None}
use Rattle.std.proofs.Common.{◌≡◌, ℕ, ◌<◌, ◌≤◌, List, length, min, take, ℤ, ap, ◌∙◌, sym, arith}
use Rattle.whole.specs.Whole.{shifted_of}
use Rattle.whole.specs.Pairs.{pairs, place_for, carried_by, converted, nth}
use Rattle.whole.proofs.laws.Lists.{length_pairs, xs_of_pairs, pairs_at, pair_past}

module _ (t : ℤ) (xs ys : List ℤ) (n k : ℕ) (en : n ≡ min (length xs) (length ys)) (ek : k ≡ place_for t (take n xs)) where
  found : converted t (pairs xs ys) ≡ carried_by t (slice_get (pairs xs ys) k)
  unfolding converted
  found =
      let m : length (pairs xs ys) ≡ n = omega (arith, length_pairs xs ys) in
      ap (λ (i : ℕ). carried_by t (slice_get (pairs xs ys) i)) (ap (place_for t) (xs_of_pairs xs ys) ∙ ap (λ (i : ℕ). place_for t (take i xs)) m ∙ sym ek)

  pub converted_found : k < length xs → k < length ys → converted t (pairs xs ys) ≡ shifted_of t (nth xs k) (nth ys k)
  unfolding carried_by
  converted_found h l = found ∙ ap (carried_by t) (pairs_at xs ys k (omega (arith, length_pairs xs ys)))

  pub converted_none : n ≤ k → converted t (pairs xs ys) ≡ None
  unfolding carried_by
  converted_none h = found ∙ ap (carried_by t) (pair_past (pairs xs ys) k (omega (arith, length_pairs xs ys)))
