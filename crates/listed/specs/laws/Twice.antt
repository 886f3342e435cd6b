-- 15 of paths, at an index: an entry has the path of an earlier one, by a loop over those before it. Assumes nothing.
use Rattle.std.specs.Prelude.{◌≡◌, refl, Bool, true, false, List, ◌∷◌, ℕ, zero, suc, ◌+◌, ◌-◌, ◌≤◌, ◌<◌, take}
use Rattle.std.proofs.Math.Path.{sym, ap}
use Rattle.std.proofs.Common.{◌∙◌, arith, eq-eqb, ne_eqb}
use Rattle.text.specs.Reading.{Text}
use Rattle.text.specs.laws.Readers.{pick_true, pick_false}
use Rattle.grammar.specs.Tree.{same}
use Rattle.manifest.specs.View.{Cell, absent, one}
use Rattle.manifest.specs.Rows.{Entry, holds, any, entries}
use Rattle.manifest.specs.Rules.{has_path}
use Rattle.index.specs.Index.{col_of, entries_in, text_at, text_cell, at, listed, entry_by, entry_at, manifest_of}
use Rattle.index.proofs.laws.Entries.{from, any_past, any_found, any_on, entry_cell, entries_are}
use Rattle.listed.specs.laws.Rules.{paths_15}
use Rattle.listed.specs.laws.Parts.{in_entry, path_before}

pub path_decides : (s : Text) (ix : List ℕ) (i : ℕ) {a : Bool} → a ≡ path_before s ix i → a ≡ in_entry paths_15 s ix i
unfolding paths_15 holds path_before
path_decides s ix i e = e

-- ---- the entries before an entry

take_listed : {A : Type 0} (f : ℕ → A) (j i n : ℕ) → i ≤ n → take i (listed f j n) ≡ listed f j i
unfolding listed
take_listed f j zero n h = refl
take_listed f j (suc i) zero h = absurd (omega arith)
take_listed f j (suc i) (suc n) h = ap (λ (l : List _). f j ∷ l) (take_listed f (suc j) i n (omega arith))

-- the entries before entry i
before : (s : Text) (ix : List ℕ) (i : ℕ) → i < entries_in ix → take i (entries (manifest_of s ix)) ≡ from (entry_cell s ix) i 0
unfolding from
before s ix i h =
    let a : i ≤ entries_in ix - 0 = omega arith in
    let b : i ≡ i - 0 = omega arith in
    ap (take i) (entries_are s ix) ∙ take_listed (entry_cell s ix) 0 i (entries_in ix - 0) a ∙ ap (listed (entry_cell s ix) 0) b

-- the entries from number j on, of those before entry i
module _ (s : Text) (ix : List ℕ) (i : ℕ) where
  -- an entry with the text at p as its path
  abbrev has : ℕ → Cell Entry → Bool
  has p = holds (has_path (text_at s p))

  module _ {p : ℕ} (ep : p ≡ col_of ix i 0) where
    pub before_none : p ≡ 0 → false ≡ path_before s ix i
    unfolding path_before entry_at entry_by at holds
    before_none h = sym (ap (holds (λ (t : Text). any (holds (has_path t)) (take i (entries (manifest_of s ix))))) (pick_true absent (one (text_at s (col_of ix i 0))) (eq-eqb (col_of ix i 0) 0 (sym ep ∙ h))))

    pub before_start : (p ≡ 0 → ⊥) → i < entries_in ix → path_before s ix i ≡ any (has p) (from (entry_cell s ix) i 0)
    unfolding path_before entry_at entry_by at holds
    before_start h l =
        ap (holds (λ (t : Text). any (holds (has_path t)) (take i (entries (manifest_of s ix))))) (pick_false absent (one (text_at s (col_of ix i 0))) (ne_eqb (col_of ix i 0) 0 (λ z. h (ep ∙ z))))
        ∙ (λ k. any (has (sym ep k)) (before s ix i l k))

  module _ (p : ℕ) {j : ℕ} (inv : path_before s ix i ≡ any (has p) (from (entry_cell s ix) i j)) where
    pub before_past : i ≤ j → false ≡ path_before s ix i
    before_past h = sym (inv ∙ any_past (entry_cell s ix) i (has p) j h)

    module _ (h : j < i) {q : ℕ} (eq : q ≡ col_of ix j 0) {b : Bool} (eb : b ≡ holds (same (text_at s p)) (text_cell s q)) where
      is_here : has p (entry_cell s ix j) ≡ b
      unfolding entry_at entry_by holds
      is_here = ap (λ (x : ℕ). holds (same (text_at s p)) (text_cell s x)) (sym eq) ∙ sym eb

      pub before_found : b ≡ true → true ≡ path_before s ix i
      before_found e = sym (inv ∙ any_found (entry_cell s ix) i (has p) j h (is_here ∙ e))

      pub before_on : b ≡ false → path_before s ix i ≡ any (has p) (from (entry_cell s ix) i (j + 1))
      before_on e =
          let z : suc j ≡ j + 1 = omega arith in
          inv ∙ any_on (entry_cell s ix) i (has p) j h (is_here ∙ e) ∙ ap (λ (k : ℕ). any (has p) (from (entry_cell s ix) i k)) z
