-- A rule is judged by a loop over the entries, whichever rule it is: up to the first entry in which it applies, or over all places for entries. Assumes nothing.
use Rattle.std.specs.Prelude.{◌≡◌, refl, Bool, true, false, ◌||◌, ◌&&◌, List, ℕ, suc, ◌+◌, ◌≤◌, ◌<◌, ltb}
use Rattle.std.proofs.Common.{sym, ap, ◌∙◌, arith, add-one, lt-ltb, le-ltb}
use Rattle.std.proofs.Math.Bool.{or-false}
use Rattle.std.proofs.Math.Decide.{dec_lt}
use Rattle.text.specs.Reading.{Text}
use Rattle.manifest.specs.Rules.{Rule, applies}
use Rattle.index.specs.Index.{entries_in, manifest_of}
use Rattle.index.proofs.laws.Entries.{from_entry, applies_is, entry_past, entry_found, entry_on}
use Rattle.listed.specs.laws.Parts.{in_entry}

module _ (r : Rule) (s : Text) (ix : List ℕ) {n : ℕ} (en : n ≡ entries_in ix) {i : ℕ} (inv : applies r (manifest_of s ix) ≡ from_entry r s ix i) where
  -- the entries from number i on decide: past the last, where the rule applies, and where it does not
  pub loop_past : n ≤ i → false ≡ applies r (manifest_of s ix)
  loop_past h = sym (inv ∙ entry_past r s ix i (omega arith))

  module _ (h : i < n) {b : Bool} (eb : b ≡ in_entry r s ix i) where
    pub loop_found : b ≡ true → true ≡ applies r (manifest_of s ix)
    loop_found t = sym (inv ∙ entry_found r s ix i (omega arith) (sym eb ∙ t))

    pub loop_on : b ≡ false → applies r (manifest_of s ix) ≡ from_entry r s ix (i + 1)
    loop_on f = inv ∙ entry_on r s ix i (omega arith) (sym eb ∙ f) ∙ ap (from_entry r s ix) (sym (add-one i))

-- what was found so far, with what one place tells: it counts if it is below n
module _ (e a : Bool) {i n : ℕ} where
  pub counts : i < n → {r : Bool} → r ≡ (e || a) → r ≡ (e || (ltb i n && a))
  counts h g = g ∙ ap (λ (b : Bool). e || (b && a)) (sym (lt-ltb i n h))

  pub counts_not : n ≤ i → e ≡ (e || (ltb i n && a))
  counts_not h = sym (ap (λ (b : Bool). e || (b && a)) (le-ltb i n h) ∙ or-false e)

-- ---- over all places: what was found so far and the entries from number i on decide

pub or_moves : (a b c : Bool) → (a || (b || c)) ≡ ((a || b) || c)
or_moves true b c = refl
or_moves false b c = refl

module _ (r : Rule) (s : Text) (ix : List ℕ) where
  entry_turn : (i : ℕ) → i < entries_in ix → from_entry r s ix i ≡ (in_entry r s ix i || from_entry r s ix (suc i))
  entry_turn i h = go (in_entry r s ix i) refl
    where
      go : (b : Bool) → in_entry r s ix i ≡ b → from_entry r s ix i ≡ (b || from_entry r s ix (suc i))
      go true e = entry_found r s ix i h e
      go false e = entry_on r s ix i h e

  pub all_start : {e : Bool} → e ≡ r.outside (manifest_of s ix) → applies r (manifest_of s ix) ≡ (e || from_entry r s ix 0)
  all_start h = applies_is r s ix ∙ ap (λ (b : Bool). b || from_entry r s ix 0) (sym h)

  module _ {n i : ℕ} (e : Bool) (en : n ≡ entries_in ix) (inv : applies r (manifest_of s ix) ≡ (e || from_entry r s ix i)) where
    pub all_done : n ≤ i → e ≡ applies r (manifest_of s ix)
    all_done h = sym (inv ∙ ap (λ (b : Bool). e || b) (entry_past r s ix i (omega arith)) ∙ or-false e)

    -- one place more: it counts if it is an entry's
    pub all_on : {a d : Bool} → a ≡ in_entry r s ix i → d ≡ (e || (ltb i n && a)) → applies r (manifest_of s ix) ≡ (d || from_entry r s ix (i + 1))
    all_on {a} {d} ea ed =
        inv ∙ ap (λ (b : Bool). e || b) (go (dec_lt i n))
        ∙ or_moves e (ltb i n && a) (from_entry r s ix (i + 1))
        ∙ ap (λ (b : Bool). b || from_entry r s ix (i + 1)) (sym ed)
      where
        go : Dec (i < n) → from_entry r s ix i ≡ ((ltb i n && a) || from_entry r s ix (i + 1))
        go (yes h) =
            entry_turn i (omega arith)
            ∙ (λ j. sym ea j || from_entry r s ix (sym (add-one i) j))
            ∙ ap (λ (b : Bool). (b && a) || from_entry r s ix (i + 1)) (sym (lt-ltb i n h))
        go (no h) =
            entry_past r s ix i (omega arith)
            ∙ sym (entry_past r s ix (i + 1) (omega arith))
            ∙ ap (λ (b : Bool). (b && a) || from_entry r s ix (i + 1)) (sym (le-ltb i n (omega arith)))
