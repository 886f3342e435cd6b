-- Refusal 19, `file` names no entry, by the tests of the code. Assumes nothing.
use Rattle.std.specs.Prelude.{◌≡◌, Bool, false, List, ℕ, get_or}
use Rattle.std.proofs.Math.Path.{sym}
use Rattle.std.proofs.Common.{ap, ◌∙◌}
use Rattle.text.specs.Reading.{Text}
use Rattle.manifest.specs.Rows.{TraceTime, SyncTo, trace_file, sync_file, holds, any, its_syncs}
use Rattle.manifest.specs.Rules.{no_entry, refusal_19_file_names_no_entry}
use Rattle.index.specs.Index.{col_of, text_cell, sync_by, entry_at, trace_at, manifest_of}
use Rattle.cited.specs.laws.Cells.{holds_none, holds_some, any_flat_the}
use Rattle.cited.specs.laws.Within.{outside_of, within_at, unclocked, unsynced, synced}

module _ (s : Text) (ix : List ℕ) where
  pub no_trace_19 : get_or ix 1 0 ≡ 0 → false ≡ outside_of refusal_19_file_names_no_entry s ix
  unfolding refusal_19_file_names_no_entry manifest_of
  no_trace_19 h = sym (holds_none (λ (t : TraceTime). holds (no_entry (manifest_of s ix)) (trace_file t)) (get_or ix 1 0) (trace_at s ix) h)

  pub trace_19 : (get_or ix 1 0 ≡ 0 → ⊥) → {b : Bool} → b ≡ holds (no_entry (manifest_of s ix)) (text_cell s (get_or ix 3 0)) → b ≡ outside_of refusal_19_file_names_no_entry s ix
  unfolding refusal_19_file_names_no_entry manifest_of trace_at
  trace_19 h eb = eb ∙ sym (holds_some (λ (t : TraceTime). holds (no_entry (manifest_of s ix)) (trace_file t)) (get_or ix 1 0) (trace_at s ix) h)

  module _ (i : ℕ) {x : ℕ} (ex : x ≡ col_of ix i 4) where
    files_19 : within_at refusal_19_file_names_no_entry s ix i ≡ any (λ y. holds (no_entry (manifest_of s ix)) (sync_file y)) (its_syncs (entry_at s ix i))
    unfolding refusal_19_file_names_no_entry holds
    files_19 = any_flat_the (no_entry (manifest_of s ix)) (λ (y : SyncTo). sync_file y) (its_syncs (entry_at s ix i))

    pub no_clocks_19 : x ≡ 0 → false ≡ within_at refusal_19_file_names_no_entry s ix i
    no_clocks_19 h = sym (files_19 ∙ unclocked s ix i (λ y. holds (no_entry (manifest_of s ix)) (sync_file y)) (sym ex ∙ h))

    module _ (there : x ≡ 0 → ⊥) {y : ℕ} (ey : y ≡ col_of ix i 7) where
      pub no_sync_19 : y ≡ 0 → false ≡ within_at refusal_19_file_names_no_entry s ix i
      no_sync_19 h = sym (files_19 ∙ unsynced s ix i (λ y. holds (no_entry (manifest_of s ix)) (sync_file y)) (λ z. there (ex ∙ z)) (sym ey ∙ h))

      pub sync_19 : (y ≡ 0 → ⊥) → {p : ℕ} → p ≡ col_of ix i 8 → {b : Bool} → b ≡ holds (no_entry (manifest_of s ix)) (text_cell s p) → b ≡ within_at refusal_19_file_names_no_entry s ix i
      unfolding sync_by
      sync_19 h ep eb =
          eb ∙ (ap (λ (q : ℕ). holds (no_entry (manifest_of s ix)) (text_cell s q)) ep
          ∙ sym (files_19 ∙ synced s ix i (λ y. holds (no_entry (manifest_of s ix)) (sync_file y)) (λ z. there (ex ∙ z)) (λ z. h (ey ∙ z))))
