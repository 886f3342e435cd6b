-- Refusal 24, a clock related to itself, by the tests of the code. Assumes nothing.
use Rattle.std.specs.Prelude.{◌≡◌, Bool, false, List, ℕ, ◌≤◌, ◌<◌, get_or}
use Rattle.std.proofs.Math.Path.{sym, ap}
use Rattle.std.proofs.Common.{◌∙◌}
use Rattle.text.specs.Reading.{Text}
use Rattle.manifest.specs.Rows.{Entry, Clocks, SyncTo, sync_to, sync_file, holds}
use Rattle.manifest.specs.Rules.{same_clock, source, reference, named_entry, refusal_24_clock_related_to_itself}
use Rattle.index.specs.Index.{col_of, sync_by, clocks_by, entry_at, manifest_of}
use Rattle.index.specs.Cited.{cites_of}
use Rattle.cited.specs.Itself.{own_clock, other_clock}
use Rattle.cited.specs.laws.Cells.{holds_none, holds_some}
use Rattle.cited.specs.laws.Within.{within_at, no_clocks, some_clocks}
use Rattle.cited.specs.laws.Files.{found_at, found_some, found_none, named_by_table}

module _ (s : Text) (ix : List ℕ) (i : ℕ) where
  -- the rule's test of the `clocks` of entry i; then of its `sync_to`; then of the entry that this cites
  abbrev clocks_24 : Clocks → Bool
  clocks_24 c = holds (λ (v : SyncTo). holds (λ (p : ℕ × Entry). same_clock (source i (entry_at s ix i) c) (reference p v)) (named_entry (manifest_of s ix) (sync_file v))) (sync_to c)

  abbrev sync_24 : SyncTo → Bool
  sync_24 v = holds (λ (p : ℕ × Entry). same_clock (own_clock s ix i) (reference p v)) (named_entry (manifest_of s ix) (sync_file v))

  abbrev cited_24 : ℕ × Entry → Bool
  cited_24 p = same_clock (own_clock s ix i) (reference p (sync_by s (col_of ix i)))

  module _ {x : ℕ} (ex : x ≡ col_of ix i 4) where
    pub no_clocks_24 : x ≡ 0 → false ≡ within_at refusal_24_clock_related_to_itself s ix i
    unfolding refusal_24_clock_related_to_itself holds
    no_clocks_24 h = sym (no_clocks s ix i clocks_24 (sym ex ∙ h))

    module _ (there : x ≡ 0 → ⊥) {y : ℕ} (ey : y ≡ col_of ix i 7) where
      past_clocks : within_at refusal_24_clock_related_to_itself s ix i ≡ holds sync_24 (sync_to (clocks_by s (col_of ix i)))
      unfolding refusal_24_clock_related_to_itself holds clocks_by
      past_clocks = some_clocks s ix i clocks_24 (λ z. there (ex ∙ z))

      pub no_sync_24 : y ≡ 0 → false ≡ within_at refusal_24_clock_related_to_itself s ix i
      unfolding clocks_by
      no_sync_24 h = sym (past_clocks ∙ holds_none sync_24 (col_of ix i 7) (sync_by s (col_of ix i)) (sym ey ∙ h))

      -- the table tells which entry is cited: 32 without a `file`, and without an entry of its path
      module _ (sync : y ≡ 0 → ⊥) (below : i < 32) {cites : List ℕ} (ec : cites ≡ cites_of s ix) where
        past_sync : within_at refusal_24_clock_related_to_itself s ix i ≡ holds cited_24 (found_at s ix (get_or cites i 0))
        unfolding clocks_by sync_by
        past_sync =
            past_clocks
            ∙ holds_some sync_24 (col_of ix i 7) (sync_by s (col_of ix i)) (λ z. sync (ey ∙ z))
            ∙ ap (holds cited_24) (named_by_table s ix i below ec)

        pub no_entry_24 : 32 ≤ get_or cites i 0 → false ≡ within_at refusal_24_clock_related_to_itself s ix i
        unfolding holds
        no_entry_24 h = sym (past_sync ∙ ap (holds cited_24) (found_none s ix (get_or cites i 0) h))

        pub some_entry_24 : get_or cites i 0 < 32 → {r : Bool} → r ≡ same_clock (own_clock s ix i) (other_clock s ix i (get_or cites i 0)) → r ≡ within_at refusal_24_clock_related_to_itself s ix i
        unfolding holds sync_by
        some_entry_24 h er = er ∙ sym (past_sync ∙ ap (holds cited_24) (found_some s ix (get_or cites i 0) h))
