-- A file that is not split declares one name at most, that of its `machine`: so where 21 does not apply, a machine that is cited for it is its base machine. Assumes nothing.
use Rattle.std.specs.Prelude.{◌≡◌, refl, Bool, not, ◌||◌, List, [], ◌∷◌, ◌++◌, ℕ, eqb}
use Rattle.std.proofs.Math.Path.{sym, ap}
use Rattle.std.proofs.Common.{◌∙◌, arith, eqb-true, ne_eqb, eq-eqb}
use Rattle.std.proofs.Math.Bool.{true, false}
use Rattle.std.proofs.lemmas.Bool.{eqb-false}
use Rattle.text.specs.Reading.{Text, pick}
use Rattle.text.specs.laws.Readers.{pick_true, pick_false}
use Rattle.grammar.specs.Tree.{same}
use Rattle.grammar.proofs.laws.Order.{same_true}
use Rattle.manifest.specs.View.{Cell, absent, one}
use Rattle.manifest.specs.Rows.{the, every, any, flat, holds, declared}
use Rattle.manifest.specs.Rules.{host, called, not_declared}
use Rattle.index.specs.Index.{text_at, col_of, at, text_cell, items_from, clocks_by, entry_by, entry_at, whose_at}
use Rattle.finds.specs.Finds.{name_for, base_at}

module _ (s : Text) (ix : List ℕ) (i : ℕ) (whole : eqb (col_of ix i 3) 0 ≡ true) where
  -- what such a file declares, by whether its `machine` and the name of that stand
  abbrev names : Bool → Bool → List Text
  names b c = flat (λ (v : Cell Text × Unit {0}). the v.0) (the (pick b absent (one (pick c absent (one (text_at s (col_of ix i 2))), tt))))

  declared_one : declared (entry_at s ix i) ≡ names (eqb (col_of ix i 1) 0) (eqb (col_of ix i 2) 0) ++ []
  unfolding entry_at entry_by at the every flat pick
  declared_one = ap (λ (b : Bool). names (eqb (col_of ix i 1) 0) (eqb (col_of ix i 2) 0) ++ flat (λ v. the v.1.0) (flat the (every (pick b absent (one (items_from s ix i)))))) whole

  module _ (t : Text) where
    abbrev Its : Type 0
    Its = (eqb (col_of ix i 1) 0 ≡ false) × (eqb (col_of ix i 2) 0 ≡ false) × (same t (text_at s (col_of ix i 2)) ≡ true)

    false_true : {A : Type 0} → false ≡ true → A
    false_true e = let z : ◌≡◌ {A = ℕ} 0 1 = cc in absurd (omega arith)

    or_none : (b : Bool) → (b || false) ≡ true → b ≡ true
    or_none true e = refl
    or_none false e = e

    found : (b c : Bool) → eqb (col_of ix i 1) 0 ≡ b → eqb (col_of ix i 2) 0 ≡ c → any (same t) (names b c ++ []) ≡ true → Its
    unfolding the flat any pick
    found true c eb ec h = false_true h
    found false true eb ec h = false_true h
    found false false eb ec h = (eb, ec, or_none _ h)

    not_false : (b : Bool) → not b ≡ false → b ≡ true
    not_false true e = refl
    not_false false e = sym e

    pub named_one : not_declared (entry_at s ix i) t ≡ false → Its
    named_one h = found _ _ refl refl (sym (ap (any (same t)) declared_one) ∙ not_false _ h)

  -- a machine that is cited at a position is the base machine
  pub base_cited : (machine : ℕ) → eqb machine 0 ≡ false → holds (not_declared (entry_at s ix i)) (text_cell s machine) ≡ false → whose_at s (base_at s ix i) ≡ whose_at s machine
  unfolding whose_at base_at at holds pick
  base_cited machine some h = go (named_one (text_at s machine) (sym (ap (λ (b : Bool). holds (not_declared (entry_at s ix i)) (pick b absent (one (text_at s machine)))) some) ∙ h))
    where
      go : Its (text_at s machine) → whose_at s (base_at s ix i) ≡ whose_at s machine
      go w =
          let e : base_at s ix i ≡ col_of ix i 2 = pick_false _ _ w.0 ∙ pick_false _ _ w.1 in
          ap (whose_at s) e
          ∙ (pick_false host (called (text_at s (col_of ix i 2))) w.1
          ∙ (ap called (sym (same_true _ _ w.2))
          ∙ sym (pick_false host (called (text_at s machine)) some)))
