-- 12 at an index: `machine` and `machines` are both there. Assumes nothing.
use mathlib.Core.Path.{◌≡◌, refl, sym, ap, ◌∙◌}
use mathlib.Core.Bool.{Bool, true, false, not, ◌&&◌}
use mathlib.Core.List.{List}
use Prim.Native.Nat.{ℕ}
use lib.Dec.{eqb}
use borrow.Author.Tests.{eq-eqb, ne_eqb}
use Rattle.text.specs.Reading.{Text, pick}
use Rattle.manifest.specs.View.{absent, one}
use Rattle.manifest.specs.Rows.{Named, is_absent, holds}
use Rattle.manifest.specs.Rules.{refusal_12_machine_with_machines}
use Rattle.index.specs.Index.{text_cell, at, col_of, items_from, entry_by, entry_at, manifest_of}

absent_at : {A : Type 0} (p : ℕ) (a : A) → is_absent (at p (one a)) ≡ eqb p 0
unfolding at is_absent pick
absent_at p a = go (eqb p 0)
  where
    go : (b : Bool) → is_absent (pick b absent (one a)) ≡ b
    go true = refl
    go false = refl

module _ (s : Text) (ix : List ℕ) (i : ℕ) where
  abbrev within : Bool
  within = refusal_12_machine_with_machines.within (manifest_of s ix) i (one (entry_at s ix i))

  within_are : within ≡ (not (eqb (col_of ix i 1) 0) && not (eqb (col_of ix i 3) 0))
  unfolding refusal_12_machine_with_machines holds entry_at entry_by
  within_are = λ k. not (absent_at {A = Named} (col_of ix i 1) (text_cell s (col_of ix i 2), tt) k) && not (absent_at (col_of ix i 3) (items_from s ix i) k)

  module _ {m : ℕ} (em : m ≡ col_of ix i 1) where
    pub no_machine : m ≡ 0 → false ≡ within
    no_machine h = sym (within_are ∙ ap (λ (b : Bool). not b && not (eqb (col_of ix i 3) 0)) (eq-eqb _ _ (sym em ∙ h)))

    pub machines_decide : (m ≡ 0 → ⊥) → {n : ℕ} → n ≡ col_of ix i 3 → not (eqb n 0) ≡ within
    machines_decide z en = ap (λ (n : ℕ). not (eqb n 0)) en ∙ sym (within_are ∙ ap (λ (b : Bool). not b && not (eqb (col_of ix i 3) 0)) (ne_eqb _ _ (λ e. z (em ∙ e))))
