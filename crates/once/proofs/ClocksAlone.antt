-- 16: `clocks` without `sync_to`, by their positions. Assumes nothing.
use mathlib.Core.Path.{◌≡◌, sym, ap, ◌∙◌}
use mathlib.Core.Bool.{Bool, false, or-false}
use mathlib.Core.List.{List}
use Prim.Native.Nat.{ℕ}
use lib.Dec.{eqb}
use Rattle.text.specs.Reading.{Text}
use Rattle.manifest.specs.Rows.{Clocks, sync_to, is_absent, holds, any}
use Rattle.manifest.specs.Rules.{refusal_16_clocks_without_sync_to}
use Rattle.index.specs.Index.{col_of, sync_by, clocks_by}
use Rattle.once.specs.laws.Parts.{in_entry}
use Rattle.once.proofs.Cells.{absent_at, no_clocks, some_clocks}

alone : Clocks → Bool
alone c = is_absent (sync_to c)

module _ (s : Text) (ix : List ℕ) (i : ℕ) {c : ℕ} (ec : c ≡ col_of ix i 4) where
  pub clocks_none : c ≡ 0 → false ≡ in_entry refusal_16_clocks_without_sync_to s ix i
  unfolding refusal_16_clocks_without_sync_to holds any alone
  clocks_none h = sym (ap (any alone) (no_clocks s ix i (sym ec ∙ h)))

  pub clocks_some : (c ≡ 0 → ⊥) → {y : ℕ} → y ≡ col_of ix i 7 → eqb y 0 ≡ in_entry refusal_16_clocks_without_sync_to s ix i
  unfolding refusal_16_clocks_without_sync_to holds any alone clocks_by
  clocks_some h {y} ey =
      sym (ap (any alone) (some_clocks s ix i (λ z. h (ec ∙ z)))
      ∙ or-false (is_absent (clocks_by s (col_of ix i)).1.1.0)
      ∙ absent_at (col_of ix i 7) (sync_by s (col_of ix i))
      ∙ ap (λ (n : ℕ). eqb n 0) (sym ey))
