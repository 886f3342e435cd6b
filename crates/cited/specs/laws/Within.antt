-- A rule in one entry of an index, and its loop over all of them. Assumes nothing.
use Rattle.std.specs.Prelude.{◌≡◌, Bool, true, false, ◌||◌, List, ℕ, ◌+◌, ◌≤◌, ◌<◌}
use Rattle.std.proofs.Common.{sym, ap, ◌∙◌, add-one, arith}
use Rattle.text.specs.Reading.{Text}
use Rattle.manifest.specs.Rows.{Entry, Clocks, SyncTo, clocks_of, sync_to, holds, any, its_clocks, its_syncs}
use Rattle.manifest.specs.Rules.{Rule, applies}
use Rattle.index.specs.Index.{col_of, entries_in, sync_by, clocks_by, entry_by, entry_at, manifest_of}
use Rattle.index.proofs.laws.Entries.{entry_cell, from_entry, applies_outside, applies_within, entry_past, entry_found, entry_on}
use Rattle.cited.specs.laws.Cells.{holds_none, holds_some, any_the, any_flat_the}

-- rule r applies outside the entries; and in entry i
abbrev pub outside_of : Rule → Text → List ℕ → Bool
outside_of r s ix = r.outside (manifest_of s ix)

abbrev pub within_at : Rule → Text → List ℕ → ℕ → Bool
within_at r s ix i = r.within (manifest_of s ix) i (entry_cell s ix i)

-- ---- the loop over the entries

module _ (r : Rule) (s : Text) (ix : List ℕ) where
  pub applies_before : {b : Bool} → b ≡ outside_of r s ix → b ≡ true → true ≡ applies r (manifest_of s ix)
  applies_before eb h = sym (applies_outside r s ix (sym eb ∙ h))

  pub applies_start : {b : Bool} → b ≡ outside_of r s ix → b ≡ false → applies r (manifest_of s ix) ≡ from_entry r s ix 0
  applies_start eb h = applies_within r s ix (sym eb ∙ h)

  module _ {n i : ℕ} (en : n ≡ entries_in ix) (inv : applies r (manifest_of s ix) ≡ from_entry r s ix i) where
    pub applies_past : n ≤ i → false ≡ applies r (manifest_of s ix)
    applies_past h = sym (inv ∙ entry_past r s ix i (omega arith))

    module _ (below : i < n) {b : Bool} (eb : b ≡ within_at r s ix i) where
      pub applies_here : b ≡ true → true ≡ applies r (manifest_of s ix)
      applies_here h = sym (inv ∙ entry_found r s ix i (omega arith) (sym eb ∙ h))

      pub applies_on : b ≡ false → applies r (manifest_of s ix) ≡ from_entry r s ix (i + 1)
      applies_on h = inv ∙ (entry_on r s ix i (omega arith) (sym eb ∙ h) ∙ ap (from_entry r s ix) (sym (add-one i)))

-- ---- the `clocks` and the `sync_to` of entry i

any_syncs : (f : SyncTo → Bool) (e : Entry) → any f (its_syncs e) ≡ any (λ c. holds f (sync_to c)) (its_clocks e)
any_syncs f e = any_flat_the f (λ c. sync_to c) (its_clocks e)

module _ (s : Text) (ix : List ℕ) (i : ℕ) where
  module _ (f : Clocks → Bool) where
    pub no_clocks : col_of ix i 4 ≡ 0 → any f (its_clocks (entry_at s ix i)) ≡ false
    unfolding entry_at entry_by
    no_clocks h = any_the f (clocks_of (entry_at s ix i)) ∙ holds_none f (col_of ix i 4) (clocks_by s (col_of ix i)) h

    pub some_clocks : (col_of ix i 4 ≡ 0 → ⊥) → any f (its_clocks (entry_at s ix i)) ≡ f (clocks_by s (col_of ix i))
    unfolding entry_at entry_by
    some_clocks h = any_the f (clocks_of (entry_at s ix i)) ∙ holds_some f (col_of ix i 4) (clocks_by s (col_of ix i)) h

  module _ (f : SyncTo → Bool) where
    pub unclocked : col_of ix i 4 ≡ 0 → any f (its_syncs (entry_at s ix i)) ≡ false
    unclocked h = any_syncs f (entry_at s ix i) ∙ no_clocks (λ c. holds f (sync_to c)) h

    module _ (there : col_of ix i 4 ≡ 0 → ⊥) where
      clocked : any f (its_syncs (entry_at s ix i)) ≡ holds f (sync_to (clocks_by s (col_of ix i)))
      clocked = any_syncs f (entry_at s ix i) ∙ some_clocks (λ c. holds f (sync_to c)) there

      pub unsynced : col_of ix i 7 ≡ 0 → any f (its_syncs (entry_at s ix i)) ≡ false
      unfolding clocks_by
      unsynced h = clocked ∙ holds_none f (col_of ix i 7) (sync_by s (col_of ix i)) h

      pub synced : (col_of ix i 7 ≡ 0 → ⊥) → any f (its_syncs (entry_at s ix i)) ≡ f (sync_by s (col_of ix i))
      unfolding clocks_by
      synced h = clocked ∙ holds_some f (col_of ix i 7) (sync_by s (col_of ix i)) h

  -- a test of the `clocks`, or one of the `sync_to`, by the tests of the code
  module _ (f : Clocks → Bool) (g : SyncTo → Bool) {x : ℕ} (ex : x ≡ col_of ix i 4) where
    pub neither_there : x ≡ 0 → false ≡ (any f (its_clocks (entry_at s ix i)) || any g (its_syncs (entry_at s ix i)))
    neither_there h = sym (λ j. no_clocks f (sym ex ∙ h) j || unclocked g (sym ex ∙ h) j)

    module _ (there : x ≡ 0 → ⊥) {b : Bool} (eb : b ≡ f (clocks_by s (col_of ix i))) where
      clocks_said : any f (its_clocks (entry_at s ix i)) ≡ b
      clocks_said = some_clocks f (λ z. there (ex ∙ z)) ∙ sym eb

      pub by_clocks : b ≡ true → true ≡ (any f (its_clocks (entry_at s ix i)) || any g (its_syncs (entry_at s ix i)))
      by_clocks h = sym (ap (λ (a : Bool). a || any g (its_syncs (entry_at s ix i))) (clocks_said ∙ h))

      module _ (left : b ≡ false) {y : ℕ} (ey : y ≡ col_of ix i 7) where
        pub by_neither : y ≡ 0 → false ≡ (any f (its_clocks (entry_at s ix i)) || any g (its_syncs (entry_at s ix i)))
        by_neither h = sym (λ j. (clocks_said ∙ left) j || unsynced g (λ z. there (ex ∙ z)) (sym ey ∙ h) j)

        pub by_sync : (y ≡ 0 → ⊥) → {a : Bool} → a ≡ g (sync_by s (col_of ix i)) → a ≡ (any f (its_clocks (entry_at s ix i)) || any g (its_syncs (entry_at s ix i)))
        by_sync h ea = ea ∙ sym (λ j. (clocks_said ∙ left) j || synced g (λ z. there (ex ∙ z)) (λ z. h (ey ∙ z)) j)
