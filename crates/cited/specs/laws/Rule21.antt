-- Refusal 21, a `machine` that its file does not declare, by the tests of the code. Assumes nothing.
use Rattle.std.specs.Prelude.{◌≡◌, Bool, true, false, not, List, ℕ, ◌≤◌, ◌<◌, get_or}
use Rattle.std.proofs.Math.Path.{sym, ap}
use Rattle.std.proofs.Common.{◌∙◌}
use Rattle.text.specs.Reading.{Text}
use Rattle.grammar.specs.Tree.{same}
use Rattle.manifest.specs.Rows.{TraceTime, Clocks, SyncTo, trace_file, trace_machine, own_machine, sync_file, sync_machine, holds, any, declared}
use Rattle.manifest.specs.Rules.{named_entry, not_declared, refusal_21_machine_not_declared}
use Rattle.index.specs.Index.{col_of, text_at, text_cell, sync_by, clocks_by, entry_at, trace_at, manifest_of}
use Rattle.cited.specs.laws.Cells.{holds_none, holds_some}
use Rattle.cited.specs.laws.Within.{outside_of, within_at, neither_there, by_clocks, by_neither, by_sync}
use Rattle.cited.specs.laws.Files.{found_at, found_some, found_none}

-- the file at p names an entry that does not declare the machine at q
unfoldable pub strange : Text → List ℕ → ℕ → ℕ → Bool
strange s ix p q = holds (λ v. holds (not_declared v.1) (text_cell s q)) (named_entry (manifest_of s ix) (text_cell s p))

-- there is an entry e, and it does not declare the machine at q
unfoldable pub strange_in : Text → List ℕ → ℕ → ℕ → Bool
strange_in s ix e q = holds (λ v. holds (not_declared v.1) (text_cell s q)) (found_at s ix e)

module _ (s : Text) (ix : List ℕ) (e q : ℕ) where
  pub no_name_given : q ≡ 0 → false ≡ holds (not_declared (entry_at s ix e)) (text_cell s q)
  no_name_given h = sym (holds_none (not_declared (entry_at s ix e)) q (text_at s q) h)

  pub name_given : (q ≡ 0 → ⊥) → {b : Bool} → b ≡ any (same (text_at s q)) (declared (entry_at s ix e)) → not b ≡ holds (not_declared (entry_at s ix e)) (text_cell s q)
  name_given h eb = ap not eb ∙ sym (holds_some (not_declared (entry_at s ix e)) q (text_at s q) h)

  pub entry_asked : e < 32 → {b : Bool} → b ≡ holds (not_declared (entry_at s ix e)) (text_cell s q) → b ≡ strange_in s ix e q
  unfolding strange_in holds
  entry_asked h eb = eb ∙ sym (ap (holds (λ v. holds (not_declared v.1) (text_cell s q))) (found_some s ix e h))

  pub entry_unknown : 32 ≤ e → false ≡ strange_in s ix e q
  unfolding strange_in holds
  entry_unknown h = sym (ap (holds (λ v. holds (not_declared v.1) (text_cell s q))) (found_none s ix e h))

  pub strange_by_entry : (p : ℕ) → named_entry (manifest_of s ix) (text_cell s p) ≡ found_at s ix e → {b : Bool} → b ≡ strange_in s ix e q → b ≡ strange s ix p q
  unfolding strange strange_in
  strange_by_entry p ee eb = eb ∙ sym (ap (holds (λ v. holds (not_declared v.1) (text_cell s q))) ee)

-- ---- in `trace_time`

module _ (s : Text) (ix : List ℕ) where
  abbrev trace_21 : TraceTime → Bool
  trace_21 t = holds (λ v. holds (not_declared v.1) (trace_machine t)) (named_entry (manifest_of s ix) (trace_file t))

  pub no_trace_21 : get_or ix 1 0 ≡ 0 → false ≡ outside_of refusal_21_machine_not_declared s ix
  unfolding refusal_21_machine_not_declared manifest_of
  no_trace_21 h = sym (holds_none trace_21 (get_or ix 1 0) (trace_at s ix) h)

  pub trace_21_said : (get_or ix 1 0 ≡ 0 → ⊥) → {b : Bool} → b ≡ strange s ix (get_or ix 3 0) (get_or ix 4 0) → b ≡ outside_of refusal_21_machine_not_declared s ix
  unfolding refusal_21_machine_not_declared manifest_of trace_at strange
  trace_21_said h eb = eb ∙ sym (holds_some trace_21 (get_or ix 1 0) (trace_at s ix) h)

-- ---- in entry i

module _ (s : Text) (ix : List ℕ) (i : ℕ) where
  -- the rule's two tests
  abbrev own_21 : Clocks → Bool
  own_21 c = holds (not_declared (entry_at s ix i)) (own_machine c)

  abbrev sync_21 : SyncTo → Bool
  sync_21 y = holds (λ v. holds (not_declared v.1) (sync_machine y)) (named_entry (manifest_of s ix) (sync_file y))

  module _ {x : ℕ} (ex : x ≡ col_of ix i 4) where
    pub no_clocks_21 : x ≡ 0 → false ≡ within_at refusal_21_machine_not_declared s ix i
    unfolding refusal_21_machine_not_declared holds
    no_clocks_21 h = neither_there s ix i own_21 sync_21 ex h

    module _ (there : x ≡ 0 → ⊥) {p : ℕ} (ep : p ≡ col_of ix i 6) {b : Bool} (eb : b ≡ holds (not_declared (entry_at s ix i)) (text_cell s p)) where
      own_is : b ≡ own_21 (clocks_by s (col_of ix i))
      unfolding clocks_by
      own_is = eb ∙ ap (λ (q : ℕ). holds (not_declared (entry_at s ix i)) (text_cell s q)) ep

      pub clocks_21 : b ≡ true → true ≡ within_at refusal_21_machine_not_declared s ix i
      unfolding refusal_21_machine_not_declared holds
      clocks_21 h = by_clocks s ix i own_21 sync_21 ex there own_is h

      module _ (left : b ≡ false) {y : ℕ} (ey : y ≡ col_of ix i 7) where
        pub no_sync_21 : y ≡ 0 → false ≡ within_at refusal_21_machine_not_declared s ix i
        unfolding refusal_21_machine_not_declared holds
        no_sync_21 h = by_neither s ix i own_21 sync_21 ex there own_is left ey h

        module _ (synced : y ≡ 0 → ⊥) {f m : ℕ} (ef : f ≡ col_of ix i 8) (em : m ≡ col_of ix i 9) {a : Bool} (ea : a ≡ strange s ix f m) where
          sync_is : a ≡ sync_21 (sync_by s (col_of ix i))
          unfolding strange sync_by
          sync_is = ea ∙ (λ j. holds (λ v. holds (not_declared v.1) (text_cell s (em j))) (named_entry (manifest_of s ix) (text_cell s (ef j))))

          pub sync_21_said : a ≡ within_at refusal_21_machine_not_declared s ix i
          unfolding refusal_21_machine_not_declared holds
          sync_21_said = by_sync s ix i own_21 sync_21 ex there own_is left ey synced sync_is
