-- 17: `machine` without `file` in `trace_time` or `sync_to`, by their positions. Assumes nothing.
use mathlib.Core.Path.{◌≡◌, sym, ap, ◌∙◌}
use mathlib.Core.Bool.{Bool, false, not, ◌&&◌, or-false}
use mathlib.Core.List.{List}
use Prim.Native.Nat.{ℕ}
use lib.Dec.{eqb}
use lib.ListN.{get_or}
use borrow.Author.Tests.{eq-eqb, ne_eqb}
use Rattle.text.specs.Reading.{Text}
use Rattle.manifest.specs.View.{one}
use Rattle.manifest.specs.Rows.{TraceTime, SyncTo, trace_file, trace_machine, sync_file, sync_machine, is_absent, holds, any}
use Rattle.manifest.specs.Rules.{refusal_17_machine_without_file}
use Rattle.index.specs.Index.{col_of, text_at, text_cell, sync_by, trace_at, manifest_of}
use Rattle.once.specs.laws.Parts.{in_entry}
use Rattle.once.proofs.Cells.{at_none, at_some, absent_at, no_sync, some_sync, no_sync_at_all}

-- a machine at m without a file at f
module _ (s : Text) (m f : ℕ) where
  abbrev asks : Bool
  asks = not (is_absent (text_cell s m)) && is_absent (text_cell s f)

  asked : asks ≡ (not (eqb m 0) && eqb f 0)
  asked = λ i. not (absent_at m (text_at s m) i) && absent_at f (text_at s f) i

  asks_not : m ≡ 0 → asks ≡ false
  asks_not h = asked ∙ ap (λ (b : Bool). not b && eqb f 0) (eq-eqb m 0 h)

  asks_file : (m ≡ 0 → ⊥) → asks ≡ eqb f 0
  asks_file h = asked ∙ ap (λ (b : Bool). not b && eqb f 0) (ne_eqb m 0 h)

-- ---- in `trace_time`

module _ (s : Text) (ix : List ℕ) where
  pub trace_none : get_or ix 1 0 ≡ 0 → false ≡ refusal_17_machine_without_file.outside (manifest_of s ix)
  unfolding refusal_17_machine_without_file manifest_of holds
  trace_none h = sym (ap (holds (λ (t : TraceTime). not (is_absent (trace_machine t)) && is_absent (trace_file t))) (at_none (get_or ix 1 0) (one (trace_at s ix)) h))

  module _ (h : get_or ix 1 0 ≡ 0 → ⊥) where
    trace_asks : refusal_17_machine_without_file.outside (manifest_of s ix) ≡ asks s (get_or ix 4 0) (get_or ix 3 0)
    unfolding refusal_17_machine_without_file manifest_of holds trace_at
    trace_asks = ap (holds (λ (t : TraceTime). not (is_absent (trace_machine t)) && is_absent (trace_file t))) (at_some (get_or ix 1 0) (one (trace_at s ix)) h)

    pub trace_no_machine : get_or ix 4 0 ≡ 0 → false ≡ refusal_17_machine_without_file.outside (manifest_of s ix)
    trace_no_machine g = sym (trace_asks ∙ asks_not s (get_or ix 4 0) (get_or ix 3 0) g)

    pub trace_machine_alone : (get_or ix 4 0 ≡ 0 → ⊥) → eqb (get_or ix 3 0) 0 ≡ refusal_17_machine_without_file.outside (manifest_of s ix)
    trace_machine_alone g = sym (trace_asks ∙ asks_file s (get_or ix 4 0) (get_or ix 3 0) g)

-- ---- in entry i

wants : SyncTo → Bool
wants v = not (is_absent (sync_machine v)) && is_absent (sync_file v)

module _ (s : Text) (ix : List ℕ) (i : ℕ) {c : ℕ} (ec : c ≡ col_of ix i 4) where
  pub machine_no_clocks : c ≡ 0 → false ≡ in_entry refusal_17_machine_without_file s ix i
  unfolding refusal_17_machine_without_file holds any wants
  machine_no_clocks h = sym (ap (any wants) (no_sync_at_all s ix i (sym ec ∙ h)))

  module _ (hc : c ≡ 0 → ⊥) {y : ℕ} (ey : y ≡ col_of ix i 7) where
    pub machine_no_sync : y ≡ 0 → false ≡ in_entry refusal_17_machine_without_file s ix i
    unfolding refusal_17_machine_without_file holds any wants
    machine_no_sync h = sym (ap (any wants) (no_sync s ix i (λ z. hc (ec ∙ z)) (sym ey ∙ h)))

    module _ (hy : y ≡ 0 → ⊥) {m : ℕ} (em : m ≡ col_of ix i 9) where
      sync_asks : in_entry refusal_17_machine_without_file s ix i ≡ asks s (col_of ix i 9) (col_of ix i 8)
      unfolding refusal_17_machine_without_file holds any wants sync_by
      sync_asks =
          ap (any wants) (some_sync s ix i (λ z. hc (ec ∙ z)) (λ z. hy (ey ∙ z)))
          ∙ or-false (asks s (col_of ix i 9) (col_of ix i 8))

      pub machine_none : m ≡ 0 → false ≡ in_entry refusal_17_machine_without_file s ix i
      machine_none h = sym (sync_asks ∙ asks_not s (col_of ix i 9) (col_of ix i 8) (sym em ∙ h))

      pub machine_alone : (m ≡ 0 → ⊥) → {f : ℕ} → f ≡ col_of ix i 8 → eqb f 0 ≡ in_entry refusal_17_machine_without_file s ix i
      machine_alone h ef = ap (λ (n : ℕ). eqb n 0) ef ∙ sym (sync_asks ∙ asks_file s (col_of ix i 9) (col_of ix i 8) (λ z. h (em ∙ z)))
