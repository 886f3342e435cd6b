-- 18: `sync_to` without `file`, by their positions. Assumes nothing.
use mathlib.Core.Path.{◌≡◌, sym, ap, ◌∙◌}
use mathlib.Core.Bool.{Bool, false, or-false}
use mathlib.Core.List.{List}
use Prim.Native.Nat.{ℕ}
use lib.Dec.{eqb}
use Rattle.text.specs.Reading.{Text}
use Rattle.manifest.specs.Rows.{SyncTo, sync_file, is_absent, holds, any}
use Rattle.manifest.specs.Rules.{refusal_18_sync_to_without_file}
use Rattle.index.specs.Index.{col_of, text_at, text_cell, sync_by}
use Rattle.once.specs.laws.Parts.{in_entry}
use Rattle.once.proofs.Cells.{absent_at, no_sync, some_sync, no_sync_at_all}

alone : SyncTo → Bool
alone v = is_absent (sync_file v)

module _ (s : Text) (ix : List ℕ) (i : ℕ) {c : ℕ} (ec : c ≡ col_of ix i 4) where
  pub sync_no_clocks : c ≡ 0 → false ≡ in_entry refusal_18_sync_to_without_file s ix i
  unfolding refusal_18_sync_to_without_file holds any alone
  sync_no_clocks h = sym (ap (any alone) (no_sync_at_all s ix i (sym ec ∙ h)))

  module _ (hc : c ≡ 0 → ⊥) {y : ℕ} (ey : y ≡ col_of ix i 7) where
    pub sync_none : y ≡ 0 → false ≡ in_entry refusal_18_sync_to_without_file s ix i
    unfolding refusal_18_sync_to_without_file holds any alone
    sync_none h = sym (ap (any alone) (no_sync s ix i (λ z. hc (ec ∙ z)) (sym ey ∙ h)))

    pub sync_alone : (y ≡ 0 → ⊥) → {f : ℕ} → f ≡ col_of ix i 8 → eqb f 0 ≡ in_entry refusal_18_sync_to_without_file s ix i
    unfolding refusal_18_sync_to_without_file holds any alone sync_by
    sync_alone hy ef =
        ap (λ (n : ℕ). eqb n 0) ef
        ∙ sym (ap (any alone) (some_sync s ix i (λ z. hc (ec ∙ z)) (λ z. hy (ey ∙ z)))
        ∙ or-false (is_absent (text_cell s (col_of ix i 8)))
        ∙ absent_at (col_of ix i 8) (text_at s (col_of ix i 8)))
