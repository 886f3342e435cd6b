-- Refusal 20, no `machine` of a split file, by the tests of the code. Assumes nothing.
use Rattle.std.specs.Prelude.{◌≡◌, Bool, true, false, not, ◌&&◌, List, ℕ, ◌≤◌, ◌<◌}
use Rattle.std.proofs.Math.Path.{sym, ap}
use Rattle.std.proofs.Common.{◌∙◌, arith, eq-eqb, ne_eqb, le-ltb}
use Rattle.std.proofs.Math.Decide.{dec_lt}
use Rattle.std.proofs.Math.Dec.{eqb}
use Rattle.text.specs.Reading.{Text}
use Rattle.text.specs.laws.Readers.{pick_false}
use Rattle.manifest.specs.Rows.{Clocks, SyncTo, own_machine, sync_file, sync_machine, is_absent, holds, split}
use Rattle.manifest.specs.Rules.{named_entry, refusal_20_no_machine_of_a_split_file}
use Rattle.index.specs.Index.{col_of, text_at, text_cell, sync_by, clocks_by, items_from, entry_by, entry_at, manifest_of}
use Rattle.cited.specs.laws.Cells.{absent_at}
use Rattle.cited.specs.laws.Within.{within_at, neither_there, by_clocks, by_neither, by_sync}
use Rattle.cited.specs.laws.Files.{found_at, found_some, found_none}

-- entry e is split: column 3 is not 0. Past the last entry all columns are 0
unfoldable pub split_at : List ℕ → ℕ → Bool
split_at ix e = not (eqb (col_of ix e 3) 0)

-- entry i is split, and its `clocks` names no machine
unfoldable pub ownless : List ℕ → ℕ → Bool
ownless ix i = split_at ix i && eqb (col_of ix i 6) 0

-- the `sync_to` of entry i names no machine, and a file that is split
unfoldable pub unnamed : Text → List ℕ → ℕ → Bool
unnamed s ix i = eqb (col_of ix i 9) 0 && holds (λ v. split v.1) (named_entry (manifest_of s ix) (text_cell s (col_of ix i 8)))

split_is : (s : Text) (ix : List ℕ) (e : ℕ) → split (entry_at s ix e) ≡ split_at ix e
unfolding split_at entry_at entry_by
split_is s ix e = ap not (absent_at (col_of ix e 3) (items_from s ix e))

split_past : (ix : List ℕ) (e : ℕ) → 32 ≤ e → split_at ix e ≡ false
unfolding split_at col_of
split_past ix e h = ap (λ (n : ℕ). not (eqb n 0)) (pick_false _ _ (le-ltb e 32 h))

split_found : (s : Text) (ix : List ℕ) (e : ℕ) → holds (λ v. split v.1) (found_at s ix e) ≡ split_at ix e
unfolding holds
split_found s ix e = go (dec_lt e 32)
  where
    go : Dec (e < 32) → holds (λ v. split v.1) (found_at s ix e) ≡ split_at ix e
    go (yes l) = ap (holds (λ v. split v.1)) (found_some s ix e l) ∙ split_is s ix e
    go (no m) = ap (holds (λ v. split v.1)) (found_none s ix e (omega arith)) ∙ sym (split_past ix e (omega arith))

-- the own `clocks`
module _ (ix : List ℕ) (i : ℕ) {b : Bool} (eb : b ≡ split_at ix i) where
  pub whole_file : b ≡ false → false ≡ ownless ix i
  unfolding ownless
  whole_file h = sym (ap (λ (a : Bool). a && eqb (col_of ix i 6) 0) (sym eb ∙ h))

  pub split_file : b ≡ true → {p : ℕ} → p ≡ col_of ix i 6 → eqb p 0 ≡ ownless ix i
  unfolding ownless
  split_file h ep = ap (λ (q : ℕ). eqb q 0) ep ∙ sym (ap (λ (a : Bool). a && eqb (col_of ix i 6) 0) (sym eb ∙ h))

-- the file that `sync_to` names
module _ (s : Text) (ix : List ℕ) (i : ℕ) {m : ℕ} (em : m ≡ col_of ix i 9) where
  pub machine_named : (m ≡ 0 → ⊥) → false ≡ unnamed s ix i
  unfolding unnamed
  machine_named h = sym (ap (λ (a : Bool). a && holds (λ v. split v.1) (named_entry (manifest_of s ix) (text_cell s (col_of ix i 8)))) (ne_eqb (col_of ix i 9) 0 (λ z. h (em ∙ z))))

  pub machine_unnamed : m ≡ 0 → {p : ℕ} → p ≡ col_of ix i 8 → (e : ℕ) → named_entry (manifest_of s ix) (text_cell s p) ≡ found_at s ix e → {b : Bool} → b ≡ split_at ix e → b ≡ unnamed s ix i
  unfolding unnamed
  machine_unnamed h ep e ee eb =
      eb ∙ sym (ap (λ (a : Bool). a && holds (λ v. split v.1) (named_entry (manifest_of s ix) (text_cell s (col_of ix i 8)))) (eq-eqb (col_of ix i 9) 0 (sym em ∙ h))
      ∙ (ap (λ (q : ℕ). holds (λ v. split v.1) (named_entry (manifest_of s ix) (text_cell s q))) (sym ep)
      ∙ (ap (holds (λ v. split v.1)) ee ∙ split_found s ix e)))

-- ---- in entry i

module _ (s : Text) (ix : List ℕ) (i : ℕ) where
  -- the rule's two tests
  abbrev own_20 : Clocks → Bool
  own_20 c = split (entry_at s ix i) && is_absent (own_machine c)

  abbrev sync_20 : SyncTo → Bool
  sync_20 y = is_absent (sync_machine y) && holds (λ v. split v.1) (named_entry (manifest_of s ix) (sync_file y))

  own_20_is : ownless ix i ≡ own_20 (clocks_by s (col_of ix i))
  unfolding ownless clocks_by
  own_20_is = sym (λ j. split_is s ix i j && absent_at (col_of ix i 6) (text_at s (col_of ix i 6)) j)

  sync_20_is : unnamed s ix i ≡ sync_20 (sync_by s (col_of ix i))
  unfolding unnamed sync_by
  sync_20_is = sym (ap (λ (a : Bool). a && holds (λ v. split v.1) (named_entry (manifest_of s ix) (text_cell s (col_of ix i 8)))) (absent_at (col_of ix i 9) (text_at s (col_of ix i 9))))

  module _ {x : ℕ} (ex : x ≡ col_of ix i 4) where
    pub no_clocks_20 : x ≡ 0 → false ≡ within_at refusal_20_no_machine_of_a_split_file s ix i
    unfolding refusal_20_no_machine_of_a_split_file holds
    no_clocks_20 h = neither_there s ix i own_20 sync_20 ex h

    module _ (there : x ≡ 0 → ⊥) {b : Bool} (eb : b ≡ ownless ix i) where
      pub clocks_20 : b ≡ true → true ≡ within_at refusal_20_no_machine_of_a_split_file s ix i
      unfolding refusal_20_no_machine_of_a_split_file holds
      clocks_20 h = by_clocks s ix i own_20 sync_20 ex there (eb ∙ own_20_is) h

      module _ (left : b ≡ false) {y : ℕ} (ey : y ≡ col_of ix i 7) where
        pub no_sync_20 : y ≡ 0 → false ≡ within_at refusal_20_no_machine_of_a_split_file s ix i
        unfolding refusal_20_no_machine_of_a_split_file holds
        no_sync_20 h = by_neither s ix i own_20 sync_20 ex there (eb ∙ own_20_is) left ey h

        pub sync_20_said : (y ≡ 0 → ⊥) → {a : Bool} → a ≡ unnamed s ix i → a ≡ within_at refusal_20_no_machine_of_a_split_file s ix i
        unfolding refusal_20_no_machine_of_a_split_file holds
        sync_20_said h ea = by_sync s ix i own_20 sync_20 ex there (eb ∙ own_20_is) left ey h (ea ∙ sync_20_is)
