-- The base machine of a file: where its name stands. Assumes nothing.
use Rattle.std.specs.Prelude.{◌≡◌, refl, Bool, true, false, List, ℕ, eqb, pos}
use Rattle.std.proofs.Math.Path.{sym}
use Rattle.std.proofs.Common.{ap, ◌∙◌, eq-eqb, ne_eqb}
use Rattle.text.specs.Reading.{Text, pick}
use Rattle.text.specs.laws.Readers.{pick_true, pick_false}
use Rattle.manifest.specs.View.{Cell, absent, one}
use Rattle.manifest.specs.Rows.{Named, its_name, onto, its_items}
use Rattle.manifest.specs.Rules.{Whose, host, called, cited_or, name_of_id, base}
use Rattle.index.specs.Index.{text_at, col_of, at, text_cell, entry_by, entry_at, whose_at}
use Rattle.finds.specs.Finds.{name_for, base_at}
use Rattle.finds.specs.laws.Ids.{name_right}

-- ---- what `base_at` returns

module _ (s : Text) (ix : List ℕ) (i : ℕ) {m : ℕ} (em : m ≡ col_of ix i 1) where
  -- no `machine`
  pub base_none : m ≡ 0 → base_at s ix i ≡ name_for s ix i 0
  unfolding base_at
  base_none z = pick_true _ _ (eq-eqb (col_of ix i 1) 0 (sym em ∙ z))

  -- a `machine`, whose name stands at p
  module _ (some : m ≡ 0 → ⊥) {p : ℕ} (ep : p ≡ col_of ix i 2) where
    pub base_named : (p ≡ 0 → ⊥) → base_at s ix i ≡ p
    unfolding base_at
    base_named z =
        pick_false _ _ (ne_eqb (col_of ix i 1) 0 (λ q. some (em ∙ q)))
        ∙ pick_false _ _ (ne_eqb (col_of ix i 2) 0 (λ q. z (ep ∙ q)))
        ∙ sym ep

    pub base_nameless : p ≡ 0 → base_at s ix i ≡ name_for s ix i 0
    unfolding base_at
    base_nameless z =
        pick_false _ _ (ne_eqb (col_of ix i 1) 0 (λ q. some (em ∙ q)))
        ∙ pick_true _ _ (eq-eqb (col_of ix i 2) 0 (sym ep ∙ z))

-- ---- the rules' base machine

-- a cited machine by its position; where there is none, the other one
pub cited_at_lem : (s : Text) (p : ℕ) (d : Whose) → cited_or (text_cell s p) d ≡ pick (eqb p 0) d (called (text_at s p))
unfolding at cited_or pick
cited_at_lem s p d = go (eqb p 0)
  where
    go : (b : Bool) → cited_or (pick b absent (one (text_at s p))) d ≡ pick b d (called (text_at s p))
    go true = refl
    go false = refl

-- the same where the other one has a position too
pub cited_whose : (s : Text) (p q : ℕ) → cited_or (text_cell s p) (whose_at s q) ≡ whose_at s (pick (eqb p 0) q p)
unfolding whose_at
cited_whose s p q = cited_at_lem s p (whose_at s q) ∙ go (eqb p 0) refl
  where
    go : (b : Bool) → eqb p 0 ≡ b → pick (eqb p 0) (whose_at s q) (called (text_at s p)) ≡ whose_at s (pick (eqb p 0) q p)
    go true e = pick_true _ _ e ∙ sym (ap (whose_at s) (pick_true q p e))
    go false e = pick_false _ _ e ∙ sym (ap (whose_at s) (pick_false q p e) ∙ pick_false host (called (text_at s p)) e)

pub base_right : (s : Text) (ix : List ℕ) (i : ℕ) → base (entry_at s ix i) ≡ whose_at s (base_at s ix i)
unfolding base entry_at entry_by base_at at onto cited_or pick whose_at
base_right s ix i =
    ap (λ (d : Whose). cited_or (onto (at (col_of ix i 1) (one named)) its_name) d) inner ∙ go (eqb (col_of ix i 1) 0)
  where
    named : Named
    named = (text_cell s (col_of ix i 2), tt)

    inner : cited_or (name_of_id (pos 0) (its_items (entry_at s ix i))) host ≡ whose_at s (name_for s ix i 0)
    inner = ap (λ (c : Cell Text). cited_or c host) (name_right s ix i 0) ∙ cited_at_lem s (name_for s ix i 0) host

    go : (b : Bool)
        → cited_or (onto (pick b absent (one named)) its_name) (whose_at s (name_for s ix i 0))
        ≡ whose_at s (pick b (name_for s ix i 0) (pick (eqb (col_of ix i 2) 0) (name_for s ix i 0) (col_of ix i 2)))
    go true = refl
    go false = cited_whose s (col_of ix i 2) (name_for s ix i 0)
