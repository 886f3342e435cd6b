-- The entry that each entry cites: with a `file` and without, and that it is the one that the rules find. Assumes nothing.
use Rattle.std.specs.Prelude.{◌≡◌, Bool, ℕ, ◌<◌, eqb}
use Rattle.std.proofs.Math.Path.{refl, ap}
use Rattle.std.proofs.Common.{sym, ◌∙◌, eq-eqb, ne_eqb}
use Rattle.std.proofs.Math.Bool.{true, false}
use mathlib.Core.List.{List}
use Rattle.std.proofs.Math.ListN.{get_or}
use Rattle.text.specs.Reading.{Text, pick}
use Rattle.text.specs.laws.Readers.{pick_true, pick_false}
use Rattle.manifest.specs.View.{absent}
use Rattle.manifest.specs.Rules.{named_entry}
use Rattle.index.specs.Index.{text_at, col_of, at, text_cell, manifest_of}
use Rattle.prints.specs.laws.Tables.{table_at}
use Rattle.index.specs.Cited.{entry_of, cited_by, cites_of, entry_cited}
use Rattle.index.proofs.laws.Paths.{found_at, named_right}

module _ (s : Text) (ix : List ℕ) (i : ℕ) where
  -- p is where the `file` stands
  module _ {p : ℕ} (ep : p ≡ col_of ix i 8) where
    pub cited_none : p ≡ 0 → cited_by s ix i ≡ 32
    unfolding entry_cited
    cited_none h = pick_true _ _ (eq-eqb (col_of ix i 8) 0 (sym ep ∙ h))

    pub cited_some : (p ≡ 0 → ⊥) → cited_by s ix i ≡ entry_of (manifest_of s ix) (text_at s p)
    unfolding entry_cited
    cited_some h = pick_false _ _ (ne_eqb (col_of ix i 8) 0 (λ q. h (ep ∙ q))) ∙ ap (λ (q : ℕ). entry_of (manifest_of s ix) (text_at s q)) (sym ep)

  -- what the rules find
  pub cited_right : named_entry (manifest_of s ix) (text_cell s (col_of ix i 8)) ≡ found_at s ix (cited_by s ix i)
  unfolding entry_cited at pick
  cited_right = named_right s ix (col_of ix i 8) ∙ go (eqb (col_of ix i 8) 0) (entry_of (manifest_of s ix) (text_at s (col_of ix i 8)))
    where
      go : (b : Bool) (e : ℕ) → pick b absent (found_at s ix e) ≡ found_at s ix (pick b 32 e)
      go true e = refl
      go false e = refl

  -- what the table tells
  module _ {cites : List ℕ} (ec : cites ≡ cites_of s ix) (h : i < 32) where
    pub cites_at : get_or cites i 0 ≡ cited_by s ix i
    unfolding cites_of
    cites_at = ap (λ (l : List ℕ). get_or l i 0) ec ∙ table_at (cited_by s ix) i h

    pub cites_right : named_entry (manifest_of s ix) (text_cell s (col_of ix i 8)) ≡ found_at s ix (get_or cites i 0)
    cites_right = cited_right ∙ ap (found_at s ix) (sym cites_at)
