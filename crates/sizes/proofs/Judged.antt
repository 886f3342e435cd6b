-- Tests that are asked one after the other: of a rule outside the entries and in each of them; and the rules themselves. Assumes nothing.
use mathlib.Core.Path.{◌≡◌, sym, ap, ◌∙◌}
use mathlib.Core.Bool.{Bool, true, false, ◌||◌}
use mathlib.Core.List.{List, ◌∷◌}
use Prim.Native.Nat.{ℕ, ◌+◌, ◌≤◌, ◌<◌}
use native.Mathlib.Numerals.{add-one}
use Rattle.text.specs.Reading.{Text}
use Rattle.text.specs.laws.Readers.{pick_true, pick_false}
use Rattle.manifest.specs.Rows.{Manifest}
use Rattle.manifest.specs.Rules.{Rule, applies, first}
use Rattle.index.specs.Index.{entries_in, manifest_of}
use Rattle.index.proofs.laws.Entries.{entry_cell, from_entry, applies_outside, applies_within, entry_past, entry_found, entry_on}

-- of two tests the first holds; and it does not: the second decides
module _ (x y : Bool) {a w : Bool} (ew : w ≡ (x || y)) (ea : a ≡ x) where
  pub hit : a ≡ true → true ≡ w
  hit h = sym (ew ∙ ap (λ (b : Bool). b || y) (sym ea ∙ h))

  pub miss : a ≡ false → w ≡ y
  miss h = ew ∙ ap (λ (b : Bool). b || y) (sym ea ∙ h)

module _ (r : Rule) (s : Text) (ix : List ℕ) where
  pub outside_hit : {a : Bool} → a ≡ r.outside (manifest_of s ix) → a ≡ true → true ≡ applies r (manifest_of s ix)
  outside_hit e h = sym (applies_outside r s ix (sym e ∙ h))

  pub outside_miss : {a : Bool} → a ≡ r.outside (manifest_of s ix) → a ≡ false → applies r (manifest_of s ix) ≡ from_entry r s ix 0
  outside_miss e h = applies_within r s ix (sym e ∙ h)

  -- the entries from number i on decide: past the last, where the rule applies, and where it does not
  module _ {n i : ℕ} (en : n ≡ entries_in ix) (inv : applies r (manifest_of s ix) ≡ from_entry r s ix i) where
    pub within_none : n ≤ i → false ≡ applies r (manifest_of s ix)
    within_none h = sym (inv ∙ entry_past r s ix i (rw en at h))

    module _ (h : i < n) {a : Bool} (ea : a ≡ r.within (manifest_of s ix) i (entry_cell s ix i)) where
      pub within_hit : a ≡ true → true ≡ applies r (manifest_of s ix)
      within_hit g = sym (inv ∙ entry_found r s ix i (rw en at h) (sym ea ∙ g))

      pub within_miss : a ≡ false → applies r (manifest_of s ix) ≡ from_entry r s ix (i + 1)
      within_miss g = inv ∙ entry_on r s ix i (rw en at h) (sym ea ∙ g) ∙ ap (from_entry r s ix) (sym (add-one i))

-- ---- the rules

-- the first of some rules applies; and it does not: the others decide
module _ (r : Rule) (rs : List Rule) (m : Manifest) {a : Bool} (e : a ≡ applies r m) where
  pub first_hit : a ≡ true → r.number ≡ first (r ∷ rs) m
  unfolding first
  first_hit h = sym (pick_true r.number (first rs m) (sym e ∙ h))

  pub first_miss : a ≡ false → first rs m ≡ first (r ∷ rs) m
  unfolding first
  first_miss h = sym (pick_false r.number (first rs m) (sym e ∙ h))
