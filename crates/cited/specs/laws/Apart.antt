-- Positions of different names: a table of them, then zeros. Two of them tell names apart, and no text is read. Assumes nothing.
use Rattle.std.specs.Prelude.{◌≡◌, false, List, ℕ, get_or}
use Rattle.std.proofs.Common.{sym, ap, subst, ◌∙◌}
use Rattle.text.specs.Reading.{Text}
use Rattle.grammar.specs.Tree.{same}
use Rattle.index.specs.Index.{text_at, manifest_of}
use Rattle.listed.specs.Settled.{settled_in, firsts_in}
use Rattle.listed.specs.Theorems.{settled_is, firsts_apart}

-- different positions of the table have different names. (0 is no position)
pub record Apart (s firsts : List ℕ) : Type 0 where
  pub differ : (j k : ℕ) → (get_or firsts j 0 ≡ 0 → ⊥) → (get_or firsts k 0 ≡ 0 → ⊥) → (get_or firsts j 0 ≡ get_or firsts k 0 → ⊥) → same (text_at s (get_or firsts j 0)) (text_at s (get_or firsts k 0)) ≡ false

-- the table has p
pub record Among (firsts : List ℕ) (p : ℕ) : Type 0 where
  pub place : ℕ
  pub there : get_or firsts place 0 ≡ p

-- two different positions of the table
pub apart_at : {s firsts : List ℕ} → Apart s firsts → {p q : ℕ} → (p ≡ 0 → ⊥) → (q ≡ 0 → ⊥) → (p ≡ q → ⊥) → Among firsts p → Among firsts q → same (text_at s p) (text_at s q) ≡ false
apart_at {s} a y z n f g =
    sym (λ i. same (text_at s (f.there i)) (text_at s (g.there i)))
    ∙ a.differ f.place g.place (λ e. y (sym f.there ∙ e)) (λ e. z (sym g.there ∙ e)) (λ e. n (sym f.there ∙ e ∙ g.there))

-- what is known of the names of a manifest: the positions of different ones, and the index that tells each by one of them
module _ (s : Text) (ix : List ℕ) where
  pub firsts_told : {firsts : List ℕ} → firsts ≡ firsts_in s ix → Apart s firsts
  firsts_told e = subst (λ (l : List ℕ). Apart s l) (sym e) (record { differ = firsts_apart s ix })

  -- it stands for the same manifest
  pub still_is : {jx : List ℕ} → jx ≡ settled_in s ix → manifest_of s ix ≡ manifest_of s jx
  still_is e = sym (ap (manifest_of s) e ∙ settled_is s ix)
