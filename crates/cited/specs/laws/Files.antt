-- The entry that the `file` at a position names, or that of an entry's `sync_to`, by the table of these. Assumes nothing.
use Rattle.std.specs.Prelude.{◌≡◌, Bool, List, ℕ, ◌≤◌, ◌<◌, ltb, get_or}
use Rattle.std.proofs.Math.Path.{refl, sym, ap}
use Rattle.std.proofs.Common.{◌∙◌, arith, eq-eqb, ne_eqb, lt-ltb, le-ltb}
use Rattle.std.proofs.Math.Bool.{true, false, not}
use Rattle.std.proofs.Math.Decide.{ℕ_discrete}
use Rattle.text.specs.Reading.{Text, pick}
use Rattle.text.specs.laws.Readers.{pick_true, pick_false}
use Rattle.manifest.specs.View.{Cell, absent, one}
use Rattle.manifest.specs.Rows.{Entry, is_absent, holds}
use Rattle.manifest.specs.Rules.{named_entry, no_entry}
use Rattle.index.specs.Index.{text_at, col_of, at, text_cell, entry_at, manifest_of}
use Rattle.index.specs.Cited.{entry_of, cites_of, trace_cited, entry_cited}
use Rattle.index.proofs.Theorems.{find_is, named_entry_is}
use Rattle.finds.specs.laws.Cites.{cited_some, cites_at, cites_right}
use Rattle.cited.specs.laws.Cells.{holds_none, holds_some}

-- entry e with its number, if e is below 32
unfoldable pub found_at : Text → List ℕ → ℕ → Cell (ℕ × Entry)
found_at s ix e = pick (ltb e 32) (one (e, entry_at s ix e)) absent

module _ (s : Text) (ix : List ℕ) (e : ℕ) where
  pub found_some : e < 32 → found_at s ix e ≡ one (e, entry_at s ix e)
  unfolding found_at
  found_some h = pick_true {A = Cell (ℕ × Entry)} (one (e, entry_at s ix e)) absent (lt-ltb e 32 h)

  pub found_none : 32 ≤ e → found_at s ix e ≡ absent
  unfolding found_at
  found_none h = pick_false {A = Cell (ℕ × Entry)} (one (e, entry_at s ix e)) absent (le-ltb e 32 h)

module _ (s : Text) (ix : List ℕ) (p : ℕ) where
  pub named_none : p ≡ 0 → named_entry (manifest_of s ix) (text_cell s p) ≡ found_at s ix 32
  unfolding at
  named_none h = named_entry_is s ix p ∙ (pick_true {A = Cell (ℕ × Entry)} absent _ (eq-eqb p 0 h) ∙ sym (found_none s ix 32 (omega arith)))

  pub named_some : (p ≡ 0 → ⊥) → {e : ℕ} → e ≡ entry_of (manifest_of s ix) (text_at s p) → named_entry (manifest_of s ix) (text_cell s p) ≡ found_at s ix e
  unfolding found_at at
  named_some h ee = named_entry_is s ix p ∙ (pick_false _ _ (ne_eqb p 0 h) ∙ ap (found_at s ix) (sym ee))

  -- no entry has the path at p
  pub cites_none : p ≡ 0 → false ≡ holds (no_entry (manifest_of s ix)) (text_cell s p)
  cites_none h = sym (holds_none (no_entry (manifest_of s ix)) p (text_at s p) h)

  module _ (there : p ≡ 0 → ⊥) {e : ℕ} (ee : e ≡ entry_of (manifest_of s ix) (text_at s p)) where
    cited_is : holds (no_entry (manifest_of s ix)) (text_cell s p) ≡ is_absent (found_at s ix e)
    unfolding found_at
    cited_is = holds_some (no_entry (manifest_of s ix)) p (text_at s p) there ∙ (ap is_absent (find_is s ix (text_at s p)) ∙ ap (λ (n : ℕ). is_absent (found_at s ix n)) (sym ee))

    pub cites_some : not (ltb e 32) ≡ holds (no_entry (manifest_of s ix)) (text_cell s p)
    unfolding found_at is_absent pick
    cites_some = sym (cited_is ∙ go (ltb e 32))
      where
        go : (b : Bool) → is_absent (pick {A = Cell (ℕ × Entry)} b (one (e, entry_at s ix e)) absent) ≡ not b
        go true = refl
        go false = refl

-- the `file` of `trace_time`, where it is known which entry it names
module _ (s : Text) (ix : List ℕ) {e : ℕ} (et : e ≡ trace_cited s ix) where
  pub named_by_trace : named_entry (manifest_of s ix) (text_cell s (get_or ix 3 0)) ≡ found_at s ix e
  unfolding entry_cited
  named_by_trace = go (ℕ_discrete (get_or ix 3 0) 0)
    where
      go : Dec (get_or ix 3 0 ≡ 0) → named_entry (manifest_of s ix) (text_cell s (get_or ix 3 0)) ≡ found_at s ix e
      go (yes z) = named_none s ix (get_or ix 3 0) z ∙ ap (found_at s ix) (sym (et ∙ pick_true 32 _ (eq-eqb (get_or ix 3 0) 0 z)))
      go (no n) = named_some s ix (get_or ix 3 0) n (et ∙ pick_false 32 _ (ne_eqb (get_or ix 3 0) 0 n))

  pub cites_by_trace : (get_or ix 3 0 ≡ 0 → ⊥) → not (ltb e 32) ≡ holds (no_entry (manifest_of s ix)) (text_cell s (get_or ix 3 0))
  unfolding entry_cited
  cites_by_trace n = cites_some s ix (get_or ix 3 0) n (et ∙ pick_false 32 _ (ne_eqb (get_or ix 3 0) 0 n))

-- the `file` of the `sync_to` of entry i, by the table
module _ (s : Text) (ix : List ℕ) (i : ℕ) {cites : List ℕ} (below : i < 32) (ec : cites ≡ cites_of s ix) where
  pub named_by_table : named_entry (manifest_of s ix) (text_cell s (col_of ix i 8)) ≡ found_at s ix (get_or cites i 0)
  unfolding found_at
  named_by_table = cites_right s ix i ec below

  module _ {p : ℕ} (ep : p ≡ col_of ix i 8) where
    pub cites_by_table : (p ≡ 0 → ⊥) → not (ltb (get_or cites i 0) 32) ≡ holds (no_entry (manifest_of s ix)) (text_cell s p)
    cites_by_table there = cites_some s ix p there (cites_at s ix i ec below ∙ cited_some s ix i ep there)
