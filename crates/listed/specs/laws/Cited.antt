-- The entry that the file at a position names, by a loop over the entries. Assumes nothing.
use Rattle.std.specs.Prelude.{◌≡◌, List, ℕ}
use Rattle.std.proofs.Math.Path.{sym}
use Rattle.std.proofs.Common.{ap, ◌∙◌, eq-eqb, ne_eqb}
use Rattle.text.specs.Reading.{Text}
use Rattle.text.specs.laws.Readers.{pick_true, pick_false}
use Rattle.index.specs.Index.{text_at, col_of}
use Rattle.index.specs.Cited.{cited_by, entry_cited}
use Rattle.index.proofs.laws.Paths.{entry_from, entry_start}

module _ (s : Text) (ix : List ℕ) {p : ℕ} where
  pub cited_none : p ≡ 0 → 32 ≡ entry_cited s ix p
  unfolding entry_cited
  cited_none h = sym (pick_true _ _ (eq-eqb p 0 h))

  pub cited_start : (p ≡ 0 → ⊥) → entry_cited s ix p ≡ entry_from s ix (text_at s p) 0
  unfolding entry_cited
  cited_start h = pick_false _ _ (ne_eqb p 0 h) ∙ entry_start s ix (text_at s p)

-- p is where the `file` of the `sync_to` of entry i stands
pub cited_by_is : (s : Text) (ix : List ℕ) (i : ℕ) {p e : ℕ} → p ≡ col_of ix i 8 → e ≡ entry_cited s ix p → e ≡ cited_by s ix i
unfolding entry_cited
cited_by_is s ix i ep ee = ee ∙ ap (entry_cited s ix) ep
