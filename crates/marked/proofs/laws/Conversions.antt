-- What the marked lists of correspondences carry, by computing. Assumes nothing.
use Rattle.std.specs.Prelude.{◌≡◌, refl, [], ◌∷◌, ℕ, pos, Some}
use Rattle.whole.specs.Pairs.{converted, converted_back}
use Rattle.clocks.specs.Answers.{Dropped, ended}
use Rattle.marked.specs.Inputs.{pair, two_pairs, top, bottom}
use Rattle.marked.proofs.laws.Opened.{of_conversions, of_answers}

pub at_150 : converted (pos 150) two_pairs ≡ Some (pos 1050)
unfolding of_conversions
at_150 = refl

pub at_199 : converted (pos 199) two_pairs ≡ Some (pos 1099)
unfolding of_conversions
at_199 = refl

pub at_200 : converted (pos 200) two_pairs ≡ Some (pos 1110)
unfolding of_conversions
at_200 = refl

pub at_50 : converted (pos 50) two_pairs ≡ Some (pos 950)
unfolding of_conversions
at_50 = refl

pub back_1105 : converted_back (pos 1105) two_pairs ≡ Some (pos 205)
unfolding of_conversions
back_1105 = refl

pub both_ends : converted bottom (pair top top ∷ []) ≡ Some bottom
unfolding of_conversions
both_ends = refl

pub past_the_top : (graph steps : ℕ) → ended graph steps (converted top (pair (pos 0) (pos 1) ∷ [])) ≡ Dropped 2
unfolding of_answers
past_the_top graph steps = refl
