-- Lists of correspondences: their readings, what stands at a place, the two lists swapped, and the conversion by a place that carries.
-- Assumes nothing.
use Rattle.std.specs.Prelude.{◌≡◌, ℕ, zero, suc, ◌<◌, ◌≤◌, List, [], ◌∷◌, map, length, take, min, ℤ, slice_get, Some, None, refl}
use Rattle.std.proofs.Common.{ap, ◌∙◌, arith, take_all}
use Rattle.whole.specs.Whole.{shifted_of}
use Rattle.whole.specs.Pairs.{Pair, swapped, xs_of, ys_of, pairs, place_for, carried_by, converted, converted_back, nth, Carries}
use Rattle.whole.proofs.laws.Places.{carries_place}

-- the pair at a place of a list, and none past its end
pub pair_at : (ps : List Pair) (i : ℕ) → i < length ps → slice_get ps i ≡ Some (record { x = nth (xs_of ps) i; y = nth (ys_of ps) i })
unfolding xs_of ys_of
pair_at [] i h = let z : ⊥ = omega arith in absurd z
pair_at (p ∷ ps) zero h = refl
pair_at (p ∷ ps) (suc i) h = pair_at ps i (omega arith)

pub pair_past : (ps : List Pair) (i : ℕ) → length ps ≤ i → slice_get ps i ≡ None
pair_past [] i h = refl
pair_past (p ∷ ps) zero h = let z : ⊥ = omega arith in absurd z
pair_past (p ∷ ps) (suc i) h = pair_past ps i (omega arith)

pub length_xs : (ps : List Pair) → length (xs_of ps) ≡ length ps
unfolding xs_of
length_xs [] = refl
length_xs (p ∷ ps) = ap suc (length_xs ps)

-- two lists joined
pub length_pairs : (xs ys : List ℤ) → length (pairs xs ys) ≡ min (length xs) (length ys)
unfolding pairs
length_pairs [] ys = omega arith
length_pairs (x ∷ xs) [] = omega arith
length_pairs (x ∷ xs) (y ∷ ys) = omega (arith, length_pairs xs ys)

pub xs_of_pairs : (xs ys : List ℤ) → xs_of (pairs xs ys) ≡ take (length (pairs xs ys)) xs
unfolding pairs xs_of
xs_of_pairs [] ys = refl
xs_of_pairs (x ∷ xs) [] = refl
xs_of_pairs (x ∷ xs) (y ∷ ys) = ap (λ (l : List ℤ). x ∷ l) (xs_of_pairs xs ys)

pub pairs_at : (xs ys : List ℤ) (i : ℕ) → i < length (pairs xs ys) → slice_get (pairs xs ys) i ≡ Some (record { x = nth xs i; y = nth ys i })
unfolding pairs
pairs_at [] ys i h = let z : ⊥ = omega arith in absurd z
pairs_at (x ∷ xs) [] i h = let z : ⊥ = omega arith in absurd z
pairs_at (x ∷ xs) (y ∷ ys) zero h = refl
pairs_at (x ∷ xs) (y ∷ ys) (suc i) h = pairs_at xs ys i (omega arith)

-- a list of correspondences is that of its xs and its ys
pub pairs_of : (ps : List Pair) → pairs (xs_of ps) (ys_of ps) ≡ ps
unfolding pairs xs_of ys_of
pairs_of [] = refl
pairs_of (p ∷ ps) = ap (λ (l : List Pair). p ∷ l) (pairs_of ps)

-- backwards the two lists change places
pub swapped_pairs : (xs ys : List ℤ) → map swapped (pairs xs ys) ≡ pairs ys xs
unfolding pairs
swapped_pairs [] [] = refl
swapped_pairs [] (y ∷ ys) = refl
swapped_pairs (x ∷ xs) [] = refl
swapped_pairs (x ∷ xs) (y ∷ ys) = ap (λ (l : List Pair). record { x = y; y = x } ∷ l) (swapped_pairs xs ys)

pub converted_back_pairs : (u : ℤ) (xs ys : List ℤ) → converted_back u (pairs xs ys) ≡ converted u (pairs ys xs)
unfolding converted_back
converted_back_pairs u xs ys = ap (converted u) (swapped_pairs xs ys)

-- t converted by the place that carries it
pub converted_at : (t : ℤ) (ps : List Pair) (i : ℕ) → Carries t (xs_of ps) i → converted t ps ≡ shifted_of t (nth (xs_of ps) i) (nth (ys_of ps) i)
unfolding converted carried_by
converted_at t ps i c =
    ap (λ (k : ℕ). carried_by t (slice_get ps k)) (carries_place t (xs_of ps) i c) ∙ ap (carried_by t) (pair_at ps i (omega (arith, c.listed, length_xs ps)))

pub converted_pairs_at : (t : ℤ) (xs ys : List ℤ) (i : ℕ) → length xs ≤ length ys → Carries t xs i → converted t (pairs xs ys) ≡ shifted_of t (nth xs i) (nth ys i)
unfolding converted carried_by
converted_pairs_at t xs ys i h c =
    let n : length (pairs xs ys) ≡ length xs = omega (arith, length_pairs xs ys) in
    let e : xs_of (pairs xs ys) ≡ xs = xs_of_pairs xs ys ∙ take_all (length (pairs xs ys)) xs (omega arith) in
    ap (λ (l : List ℤ). carried_by t (slice_get (pairs xs ys) (place_for t l))) e
    ∙ ap (λ (k : ℕ). carried_by t (slice_get (pairs xs ys) k)) (carries_place t xs i c)
    ∙ ap (carried_by t) (pairs_at xs ys i (omega (arith, c.listed)))
