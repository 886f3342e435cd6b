-- A test of a text at a position: where there is none, where there is one, and where the text is inside other values. Assumes nothing.
use mathlib.Core.Path.{◌≡◌, refl, sym, ap, ◌∙◌}
use mathlib.Core.Bool.{Bool, true, false, ◌||◌, or-false}
use mathlib.Core.List.{List, [], ◌++◌}
use Prim.Native.Nat.{ℕ}
use lib.Dec.{eqb}
use borrow.Author.Tests.{eq-eqb, ne_eqb}
use Rattle.text.specs.Reading.{Text, pick}
use Rattle.text.specs.laws.Readers.{pick_true, pick_false}
use Rattle.manifest.specs.View.{Cell, absent, wrong, many, one}
use Rattle.manifest.specs.Rows.{Clocks, SyncTo, its_clocks, its_syncs, own_clock, sync_to, sync_clock, the, holds, any, flat, cited_clocks}
use Rattle.manifest.proofs.laws.Lists.{any_append}
use Rattle.index.specs.Index.{text_at, text_cell, at, col_of, sync_by, clocks_by, entry_by, entry_at}

-- the position p of a value inside the value at another position
abbrev pub inside : ℕ → ℕ → ℕ
inside outer p = pick (eqb outer 0) 0 p

-- a position inside an entry's `clocks`, and inside its `sync_to`
abbrev pub in_clocks : List ℕ → ℕ → ℕ → ℕ
in_clocks ix i j = inside (col_of ix i 4) (col_of ix i j)

abbrev pub in_sync : List ℕ → ℕ → ℕ → ℕ
in_sync ix i j = inside (in_clocks ix i 7) (col_of ix i j)

pub inside_none : {q : ℕ} (p : ℕ) → q ≡ 0 → 0 ≡ inside q p
inside_none p e = sym (pick_true 0 p (eq-eqb _ _ e))

pub inside_some : {q : ℕ} (p : ℕ) → (q ≡ 0 → ⊥) → p ≡ inside q p
inside_some p z = sym (pick_false 0 p (ne_eqb _ _ z))

-- two positions that the code found one after the other
pub inside_is : {q p x y r : ℕ} → q ≡ x → p ≡ y → r ≡ inside q p → r ≡ inside x y
inside_is e f h = h ∙ (λ i. inside (e i) (f i))

module _ (t : Text → Bool) where
  any_cell_on : (c : Cell Text) → any t (the c ++ []) ≡ holds t c
  unfolding any the holds
  any_cell_on absent = refl
  any_cell_on wrong = refl
  any_cell_on (many i) = refl
  any_cell_on (one a) = or-false (t a)

  module _ (s : Text) where
    pub no_text : {p : ℕ} → p ≡ 0 → false ≡ holds t (text_cell s p)
    unfolding at holds
    no_text e = sym (ap (holds t) (pick_true _ _ (eq-eqb _ _ e)))

    pub some_text : {p : ℕ} → (p ≡ 0 → ⊥) → t (text_at s p) ≡ holds t (text_cell s p)
    unfolding at holds
    some_text z = sym (ap (holds t) (pick_false _ _ (ne_eqb _ _ z)))

    -- a test of a text whose position is known as another
    pub moved : {p q : ℕ} {r : Bool} → p ≡ q → r ≡ holds t (text_cell s p) → r ≡ holds t (text_cell s q)
    moved e h = h ∙ ap (λ (n : ℕ). holds t (text_cell s n)) e

    -- the text f of a value v, which is there unless b
    module _ {A : Type 0} (f : A → Cell Text) (v : A) (p : ℕ) (e : f v ≡ text_cell s p) where
      any_inside : (b : Bool) → any t (flat (λ w. the (f w)) (the (pick b absent (one v)))) ≡ holds t (text_cell s (pick b 0 p))
      unfolding pick flat the any at holds
      any_inside true = refl
      any_inside false = any_cell_on (f v) ∙ ap (holds t) e

      pub holds_inside : (b : Bool) → holds (λ w. holds t (f w)) (pick b absent (one v)) ≡ holds t (text_cell s (pick b 0 p))
      unfolding pick at holds
      holds_inside true = refl
      holds_inside false = ap (holds t) e

    -- the text g of the `sync_to` v of the `clocks` c
    module _ (g : SyncTo → Cell Text) (v : SyncTo) (c : Clocks) (q p : ℕ) (e : sync_to c ≡ at q (one v)) (h : g v ≡ text_cell s p) where
      any_synced : (b : Bool) → any t (flat (λ w. the (g w)) (flat (λ d. the (sync_to d)) (the (pick b absent (one c))))) ≡ holds t (text_cell s (inside (pick b 0 q) p))
      unfolding pick flat the any at holds
      any_synced true = refl
      any_synced false = ap (λ (d : Cell SyncTo). any t (flat (λ w. the (g w)) (the d ++ []))) e ∙ go (eqb q 0)
        where
          go : (b : Bool) → any t (flat (λ w. the (g w)) (the (pick b absent (one v)) ++ [])) ≡ holds t (text_cell s (pick b 0 p))
          go true = refl
          go false = any_cell_on (g v) ∙ ap (holds t) h

    -- the clocks that entry i cites
    module _ (ix : List ℕ) (i : ℕ) where
      pub clocks_are : any t (cited_clocks (entry_at s ix i)) ≡ (holds t (text_cell s (in_clocks ix i 5)) || holds t (text_cell s (in_sync ix i 10)))
      unfolding entry_at entry_by clocks_by sync_by at
      clocks_are =
          any_append t (flat (λ c. the (own_clock c)) (its_clocks (entry_at s ix i))) (flat (λ v. the (sync_clock v)) (its_syncs (entry_at s ix i)))
          ∙ (λ k.
          any_inside own_clock (clocks_by s (col_of ix i)) (col_of ix i 5) refl (eqb (col_of ix i 4) 0) k
          || any_synced sync_clock (sync_by s (col_of ix i)) (clocks_by s (col_of ix i)) (col_of ix i 7) (col_of ix i 10) refl refl (eqb (col_of ix i 4) 0) k)
