-- The offset at a position, as 64 bits hold it. Assumes nothing.
use Rattle.std.specs.Prelude.{◌≡◌, refl, Bool, true, false, List, ℕ, ◌<◌, ◌^◌, ltb, ℤ, pos, negsuc, neg_ℤ}
use Rattle.std.proofs.Math.Path.{sym, ap}
use Rattle.std.proofs.Common.{◌∙◌, arith, SFits, of_z, to_z, lt-ltb, le-ltb}
use Rattle.std.proofs.Math.Bool.{or-false}
use Rattle.std.proofs.Math.Decide.{dec_lt}
use Rattle.std.specs.Int.Signed.{lt_z}
use mir.Syntax.{w64}
use Rattle.std.proofs.lemmas.Int.{to_z-of_z}
use Rattle.text.specs.Reading.{Text, Out, done, bad, deep, pick}
use Rattle.text.specs.Numbers.{number}
use Rattle.text.specs.laws.Readers.{pick_true, pick_false}
use Rattle.values.specs.declared.Integer.{Integer}
use Rattle.values.specs.declared.Integer.TheVariants.{In, Below, Above, None}
use Rattle.values.specs.Integer.{Whole, whole, none, ranged, integer_in, integer_at}
use Rattle.manifest.specs.Rows.{offset, holds, any, its_clocks}
use Rattle.manifest.specs.Rules.{no_integer, too_far, refusal_22_offset_not_an_integer, refusal_23_offset_out_of_range}
use Rattle.index.specs.Index.{col_of, whole_in, whole_at, offset_cell, clocks_by, entry_at}
use Rattle.cited.specs.laws.Cells.{holds_none, holds_some}
use Rattle.cited.specs.laws.Within.{within_at, no_clocks, some_clocks}

pub integer_whole : (s : Text) (p : ℕ) → integer_at s p ≡ ranged (whole_at s p)
unfolding integer_at integer_in whole_at whole_in ranged
integer_whole s p = go (number s p)
  where
    go : (o : Out Text) → integer_in o ≡ ranged (whole_in o)
    go (done cs j) = refl
    go (bad q) = refl
    go (deep q) = refl

-- what 64 bits tell of an offset
unfoldable pub none_in : Integer → Bool
none_in (In z) = false
none_in Below = false
none_in Above = false
none_in None = true

unfoldable pub far_in : Integer → Bool
far_in (In z) = lt_z z (negsuc 9223372036854775806)
far_in Below = true
far_in Above = true
far_in None = false

none_ranged : (w : Whole) → none_in (ranged w) ≡ no_integer w
unfolding ranged none_in no_integer pick
none_ranged (whole z) = go (lt_z z (neg_ℤ (pos (2 ^ 63)))) (lt_z z (pos (2 ^ 63)))
  where
    go : (a b : Bool) → none_in (pick a Below (pick b (In z) Above)) ≡ false
    go true b = refl
    go false true = refl
    go false false = refl
none_ranged none = refl

far_positive : (n : ℕ) → far_in (pick (ltb n (2 ^ 63)) (In (pos n)) Above) ≡ ltb 9223372036854775807 n
unfolding far_in
far_positive n = go (dec_lt n (2 ^ 63))
  where
    go : Dec (n < 2 ^ 63) → far_in (pick (ltb n (2 ^ 63)) (In (pos n)) Above) ≡ ltb 9223372036854775807 n
    go (yes l) = ap far_in (pick_true _ _ (lt-ltb n (2 ^ 63) l)) ∙ sym (le-ltb 9223372036854775807 n (omega arith))
    go (no m) = ap far_in (pick_false _ _ (le-ltb n (2 ^ 63) (omega arith))) ∙ sym (lt-ltb 9223372036854775807 n (omega arith))

far_negative : (n : ℕ) → far_in (pick (ltb 9223372036854775807 n) Below (In (negsuc n))) ≡ ltb 9223372036854775806 n
unfolding far_in
far_negative n = go (dec_lt 9223372036854775807 n)
  where
    go : Dec (9223372036854775807 < n) → far_in (pick (ltb 9223372036854775807 n) Below (In (negsuc n))) ≡ ltb 9223372036854775806 n
    go (yes l) = ap far_in (pick_true _ _ (lt-ltb 9223372036854775807 n l)) ∙ sym (lt-ltb 9223372036854775806 n (omega arith))
    go (no m) = ap far_in (pick_false _ _ (le-ltb 9223372036854775807 n (omega arith)))

far_ranged : (w : Whole) → far_in (ranged w) ≡ too_far w
unfolding ranged far_in too_far pick
far_ranged (whole (pos n)) = far_positive n
far_ranged (whole (negsuc n)) = far_negative n ∙ sym (or-false _)
far_ranged none = refl

-- ---- at a position

module _ (s : Text) (p : ℕ) where
  pub no_offset : (f : Whole → Bool) → p ≡ 0 → false ≡ holds f (offset_cell s p)
  no_offset f h = sym (holds_none f p (whole_at s p) h)

  module _ (there : p ≡ 0 → ⊥) {z y : Integer} (ez : z ≡ integer_at s p) (ey : z ≡ y) where
    pub none_there : {b : Bool} → b ≡ none_in y → b ≡ holds no_integer (offset_cell s p)
    none_there eb = eb ∙ (ap none_in (sym ey ∙ (ez ∙ integer_whole s p)) ∙ (none_ranged (whole_at s p) ∙ sym (holds_some no_integer p (whole_at s p) there)))

    pub far_there : {b : Bool} → b ≡ far_in y → b ≡ holds too_far (offset_cell s p)
    far_there eb = eb ∙ (ap far_in (sym ey ∙ (ez ∙ integer_whole s p)) ∙ (far_ranged (whole_at s p) ∙ sym (holds_some too_far p (whole_at s p) there)))

  -- an integer of 64 bits, as the code compares it
  pub far_in_lem : (p ≡ 0 → ⊥) → {z : Integer} → z ≡ integer_at s p → {v : ℤ} → z ≡ In v → SFits w64 v → lt_z (to_z w64 (of_z w64 v)) (negsuc 9223372036854775806) ≡ holds too_far (offset_cell s p)
  unfolding far_in
  far_in_lem there ez {v} ev f = far_there there ez ev (ap (λ (u : ℤ). lt_z u (negsuc 9223372036854775806)) (to_z-of_z w64 v f))

-- ---- in entry i

module _ (s : Text) (ix : List ℕ) (i : ℕ) {x : ℕ} (ex : x ≡ col_of ix i 4) where
  pub no_clocks_22 : x ≡ 0 → false ≡ within_at refusal_22_offset_not_an_integer s ix i
  unfolding refusal_22_offset_not_an_integer holds
  no_clocks_22 h = sym (no_clocks s ix i (λ c. holds no_integer (offset c)) (sym ex ∙ h))

  pub no_clocks_23 : x ≡ 0 → false ≡ within_at refusal_23_offset_out_of_range s ix i
  unfolding refusal_23_offset_out_of_range holds
  no_clocks_23 h = sym (no_clocks s ix i (λ c. holds too_far (offset c)) (sym ex ∙ h))

  module _ (there : x ≡ 0 → ⊥) {y : ℕ} (ey : y ≡ col_of ix i 11) where
    offset_is : (f : Whole → Bool) → holds f (offset_cell s y) ≡ any (λ c. holds f (offset c)) (its_clocks (entry_at s ix i))
    unfolding clocks_by
    offset_is f = ap (λ (p : ℕ). holds f (offset_cell s p)) ey ∙ sym (some_clocks s ix i (λ c. holds f (offset c)) (λ z. there (ex ∙ z)))

    pub offset_22 : {b : Bool} → b ≡ holds no_integer (offset_cell s y) → b ≡ within_at refusal_22_offset_not_an_integer s ix i
    unfolding refusal_22_offset_not_an_integer holds
    offset_22 eb = eb ∙ offset_is no_integer

    pub offset_23 : {b : Bool} → b ≡ holds too_far (offset_cell s y) → b ≡ within_at refusal_23_offset_out_of_range s ix i
    unfolding refusal_23_offset_out_of_range holds
    offset_23 eb = eb ∙ offset_is too_far
