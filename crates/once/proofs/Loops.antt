-- A rule is judged by a loop over the entries, whichever rule it is. Assumes nothing.
use mathlib.Core.Path.{◌≡◌, refl, sym, ap, ◌∙◌}
use mathlib.Core.Bool.{Bool, true, false, ◌||◌, or-false}
use mathlib.Core.List.{List}
use Prim.Native.Nat.{ℕ, suc, ◌+◌, ◌≤◌, ◌<◌}
use native.Mathlib.Omega.{arith}
use Rattle.text.specs.Reading.{Text}
use Rattle.manifest.specs.Rules.{Rule, applies}
use Rattle.index.specs.Index.{entries_in, manifest_of}
use Rattle.index.proofs.laws.Entries.{from_entry, applies_outside, applies_within, entry_past, entry_found, entry_on}
use Rattle.once.specs.laws.Parts.{in_entry}

module _ (r : Rule) (s : Text) (ix : List ℕ) where
  -- the rule applies outside the entries, or it does not and the entries decide
  pub loop_outside : {b : Bool} → b ≡ r.outside (manifest_of s ix) → b ≡ true → true ≡ applies r (manifest_of s ix)
  loop_outside e t = sym (applies_outside r s ix (sym e ∙ t))

  pub loop_start : {b : Bool} → b ≡ r.outside (manifest_of s ix) → b ≡ false → applies r (manifest_of s ix) ≡ from_entry r s ix 0
  loop_start e f = applies_within r s ix (sym e ∙ f)

  module _ {n : ℕ} (en : n ≡ entries_in ix) {i : ℕ} where
    module _ (inv : applies r (manifest_of s ix) ≡ from_entry r s ix i) where
      pub loop_past : n ≤ i → false ≡ applies r (manifest_of s ix)
      loop_past h = sym (inv ∙ entry_past r s ix i (omega arith))

      module _ (h : i < n) {b : Bool} (eb : b ≡ in_entry r s ix i) where
        pub loop_found : b ≡ true → true ≡ applies r (manifest_of s ix)
        loop_found t = sym (inv ∙ entry_found r s ix i (omega arith) (sym eb ∙ t))

        pub loop_on : b ≡ false → applies r (manifest_of s ix) ≡ from_entry r s ix (i + 1)
        loop_on f =
            let e : suc i ≡ i + 1 = omega arith in
            inv ∙ entry_on r s ix i (omega arith) (sym eb ∙ f) ∙ ap (from_entry r s ix) e

  -- a rule that is asked of all entries: e tells whether it applied before those from number i on
  entry_turn : (i : ℕ) → i < entries_in ix → from_entry r s ix i ≡ (in_entry r s ix i || from_entry r s ix (suc i))
  entry_turn i h = go (in_entry r s ix i) refl
    where
      go : (b : Bool) → in_entry r s ix i ≡ b → from_entry r s ix i ≡ (b || from_entry r s ix (suc i))
      go true e = entry_found r s ix i h e
      go false e = entry_on r s ix i h e

  module _ {n i : ℕ} (e : Bool) (en : n ≡ entries_in ix) (inv : applies r (manifest_of s ix) ≡ (e || from_entry r s ix i)) where
    pub all_done : n ≤ i → e ≡ applies r (manifest_of s ix)
    all_done h = sym (inv ∙ ap (λ (b : Bool). e || b) (entry_past r s ix i (omega arith)) ∙ or-false e)

    pub all_on : i < n → {a d : Bool} → a ≡ in_entry r s ix i → d ≡ (e || a) → applies r (manifest_of s ix) ≡ (d || from_entry r s ix (i + 1))
    all_on h {a} ea ed =
        let w : suc i ≡ i + 1 = omega arith in
        inv ∙ ap (λ (b : Bool). e || b) (entry_turn i (omega arith))
        ∙ (λ j. e || (sym ea j || from_entry r s ix (w j)))
        ∙ or_moves e a (from_entry r s ix (i + 1))
        ∙ ap (λ (b : Bool). b || from_entry r s ix (i + 1)) (sym ed)
      where
        or_moves : (a b c : Bool) → (a || (b || c)) ≡ ((a || b) || c)
        or_moves true b c = refl
        or_moves false b c = refl
