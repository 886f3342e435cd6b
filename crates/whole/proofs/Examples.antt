-- Worked examples, by computing. Assumes nothing.
use Rattle.std.specs.Prelude.{◌≡◌, ◌-◌, ◌^◌, List, [], ◌∷◌, map, ℤ, pos, negsuc, neg_ℤ, refl, Some, None}
use Rattle.whole.specs.Whole.{reading, shifted_of, excess, of_excess}
use Rattle.whole.specs.Pairs.{Pair, xs_of, pairs, better, place_from, place_for, carried_by, converted, converted_back}

-- the two ends of the readings
abbrev top : ℤ
top = pos (2 ^ 63 - 1)

abbrev bottom : ℤ
bottom = neg_ℤ (pos (2 ^ 63))

-- the list (100, 1000), (200, 1110)
abbrev two : List Pair
two = record { x = pos 100; y = pos 1000 } ∷ record { x = pos 200; y = pos 1110 } ∷ []

-- 150 gives 1050, 199 gives 1099, 200 gives 1110, 50 gives 950
forwards : map (λ (t : ℤ). converted t two) (pos 150 ∷ pos 199 ∷ pos 200 ∷ pos 50 ∷ []) ≡ Some (pos 1050) ∷ Some (pos 1099) ∷ Some (pos 1110) ∷ Some (pos 950) ∷ []
unfolding converted carried_by place_for place_from better xs_of shifted_of reading
forwards = refl

-- backwards 1105 gives 205
backwards : converted_back (pos 1105) two ≡ Some (pos 205)
unfolding converted_back converted carried_by place_for place_from better xs_of shifted_of reading
backwards = refl

-- (2^63-1, 2^63-1) and -2^63: the first difference leaves 64 bits, the sum fits
there_and_back : converted bottom (record { x = top; y = top } ∷ []) ≡ Some bottom
unfolding converted carried_by place_for place_from better xs_of shifted_of reading
there_and_back = refl

-- (0, 1) and 2^63-1: out of range; and the other end
past_the_top : converted top (record { x = pos 0; y = pos 1 } ∷ []) ≡ None
unfolding converted carried_by place_for place_from better xs_of shifted_of reading
past_the_top = refl

past_the_bottom : converted bottom (record { x = pos 1; y = pos 0 } ∷ []) ≡ None
unfolding converted carried_by place_for place_from better xs_of shifted_of reading
past_the_bottom = refl

-- no correspondence
empty : converted (pos 7) [] ≡ None
unfolding converted carried_by place_for
empty = refl

-- two lists join as far as both go
joined : pairs (pos 100 ∷ pos 200 ∷ pos 300 ∷ []) (pos 1000 ∷ pos 1110 ∷ []) ≡ two
unfolding pairs
joined = refl

-- of equals the first: at 6 and 3 the first 5, at 9 the first 7
equals : map (λ (t : ℤ). place_for t (pos 7 ∷ pos 5 ∷ pos 5 ∷ pos 7 ∷ [])) (pos 6 ∷ pos 3 ∷ pos 9 ∷ []) ≡ 1 ∷ 1 ∷ 0 ∷ []
unfolding place_for place_from better
equals = refl

-- keys: -2^63, -1, 0 and 2^63-1
keys : map excess (bottom ∷ negsuc 0 ∷ pos 0 ∷ top ∷ []) ≡ 0 ∷ (2 ^ 63 - 1) ∷ 2 ^ 63 ∷ (2 ^ 64 - 1) ∷ []
unfolding excess
keys = refl

readings : map of_excess (0 ∷ (2 ^ 63 - 1) ∷ 2 ^ 63 ∷ (2 ^ 64 - 1) ∷ []) ≡ bottom ∷ negsuc 0 ∷ pos 0 ∷ top ∷ []
unfolding of_excess
readings = refl
