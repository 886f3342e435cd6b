-- The items of one `machines`: no id twice (15). Assumes nothing.
use Rattle.std.proofs.Math.Path.{◌≡◌, refl, ap}
use Rattle.std.proofs.Common.{sym, ◌∙◌, true≢false, arith}
use Rattle.std.specs.Prelude.{Bool, ◌||◌}
use Rattle.std.proofs.Math.Bool.{true, false}
use mathlib.Core.List.{List, [], ◌∷◌, ◌++◌}
use Prim.Native.Nat.{ℕ, suc}
use Rattle.std.proofs.Math.IntN.{ℤ}
use Rattle.text.specs.Reading.{Text, pick}
use Rattle.numbers.specs.declared.Machine.{Machine}
use Rattle.manifest.specs.View.{Cell, absent, wrong, many, one}
use Rattle.manifest.specs.Rows.{Manifest, Entry, Item, machine_of, id, item_name, the, flat, any, is_absent, its_items, split, ids}
use Rattle.manifest.specs.Rules.{same_id, twice_in, called, base}
use Rattle.manifest.specs.Meaning.{nothing, whole_file, parts, names_in, number_of, part, owns_of}
use Rattle.manifest.specs.Statements.{At, here, further}
use Rattle.manifest.proofs.laws.Bools.{halves}
use Rattle.manifest.proofs.laws.Lists.{at_below}
use Rattle.exact.proofs.laws.Said.{same_id_refl}

-- no id twice
abbrev pub Once : List (ℤ × Machine) → Type 0
Once items = (j k : ℕ) (a b : ℤ × Machine) → At items j a → At items k b → a.0 ≡ b.0 → j ≡ k

or_true : (a : Bool) {b : Bool} → b ≡ true → (a || b) ≡ true
or_true true e = refl
or_true false e = e

module _ (m : Manifest) where
  -- an item's pair, by its two members
  abbrev pair : Cell ℤ → Cell Text → List (ℤ × Machine)
  pair c d = flat (λ z. flat (λ t. (z, number_of (names_in m) (called t)) ∷ []) (the d)) (the c)

  has_id : (l : List Item) {j : ℕ} {a : ℤ × Machine} → At (flat (part m) l) j a → any (same_id a.0) (flat (λ v. the (id v)) l) ≡ true
  unfolding part flat the any
  has_id [] h = absurd (omega (arith, at_below h))
  has_id (v ∷ l) h = go (id v) (item_name v) h (λ j a k. has_id l k)
    where
      go : (c : Cell ℤ) (d : Cell Text) {j : ℕ} {a : ℤ × Machine} → At (pair c d ++ flat (part m) l) j a → ((j : ℕ) (a : ℤ × Machine) → At (flat (part m) l) j a → any (same_id a.0) (flat (λ v. the (id v)) l) ≡ true) → any (same_id a.0) (the c ++ flat (λ v. the (id v)) l) ≡ true
      go absent d {j} {a} h ih = ih j a h
      go wrong d {j} {a} h ih = ih j a h
      go (many i) d {j} {a} h ih = ih j a h
      go (one y) absent {j} {a} h ih = or_true (same_id a.0 y) (ih j a h)
      go (one y) wrong {j} {a} h ih = or_true (same_id a.0 y) (ih j a h)
      go (one y) (many i) {j} {a} h ih = or_true (same_id a.0 y) (ih j a h)
      go (one y) (one t) here ih = ap (λ (b : Bool). b || any (same_id y) (flat (λ v. the (id v)) l)) (same_id_refl y)
      go (one y) (one t) (further {a = a} {i = i} h) ih = or_true (same_id a.0 y) (ih i a h)

  once_id : (l : List Item) → twice_in (flat (λ v. the (id v)) l) ≡ false → Once (flat (part m) l)
  unfolding part flat the any twice_in
  once_id [] f j k a b h g e = absurd (omega (arith, at_below h))
  once_id (v ∷ l) f j k a b h g e = go (id v) (item_name v) f (once_id l) h g e
    where
      go : (c : Cell ℤ) (d : Cell Text) {j k : ℕ} {a b : ℤ × Machine} → twice_in (the c ++ flat (λ v. the (id v)) l) ≡ false → (twice_in (flat (λ v. the (id v)) l) ≡ false → Once (flat (part m) l))
          → At (pair c d ++ flat (part m) l) j a → At (pair c d ++ flat (part m) l) k b → a.0 ≡ b.0 → j ≡ k
      go absent d {j} {k} {a} {b} f ih h g e = ih f j k a b h g e
      go wrong d {j} {k} {a} {b} f ih h g e = ih f j k a b h g e
      go (many i) d {j} {k} {a} {b} f ih h g e = ih f j k a b h g e
      go (one y) absent {j} {k} {a} {b} f ih h g e = ih (halves (any (same_id y) (flat (λ v. the (id v)) l)) (twice_in (flat (λ v. the (id v)) l)) f).1 j k a b h g e
      go (one y) wrong {j} {k} {a} {b} f ih h g e = ih (halves (any (same_id y) (flat (λ v. the (id v)) l)) (twice_in (flat (λ v. the (id v)) l)) f).1 j k a b h g e
      go (one y) (many i) {j} {k} {a} {b} f ih h g e = ih (halves (any (same_id y) (flat (λ v. the (id v)) l)) (twice_in (flat (λ v. the (id v)) l)) f).1 j k a b h g e
      go (one y) (one t) f ih here here e = refl
      go (one y) (one t) f ih here (further g) e = absurd (true≢false (sym (ap (λ (z : ℤ). any (same_id z) (flat (λ v. the (id v)) l)) e ∙ has_id l g) ∙ (halves (any (same_id y) (flat (λ v. the (id v)) l)) (twice_in (flat (λ v. the (id v)) l)) f).0))
      go (one y) (one t) f ih (further h) here e = absurd (true≢false (sym (ap (λ (z : ℤ). any (same_id z) (flat (λ v. the (id v)) l)) (sym e) ∙ has_id l h) ∙ (halves (any (same_id y) (flat (λ v. the (id v)) l)) (twice_in (flat (λ v. the (id v)) l)) f).0))
      go (one y) (one t) f ih (further {a = a} {i = i} h) (further {a = b} {i = j} g) e = ap suc (ih (halves (any (same_id y) (flat (λ v. the (id v)) l)) (twice_in (flat (λ v. the (id v)) l)) f).1 i j a b h g e)

  pub ids_once : (e : Entry) → twice_in (ids e) ≡ false → {items : List (ℤ × Machine)} → owns_of m e ≡ parts items → Once items
  unfolding owns_of pick
  ids_once e f {items} q = go (split e) (is_absent (machine_of e)) q
    where
      go : (b c : Bool) → pick b (parts (flat (part m) (its_items e))) (pick c nothing (whole_file (number_of (names_in m) (base e)))) ≡ parts items → Once items
      go true c q = let z : flat (part m) (its_items e) ≡ items = cc in rw z at (once_id (its_items e) f)
      go false true q = let z : ◌≡◌ {A = ℕ} 0 1 = cc in absurd (omega arith)
      go false false q = let z : ◌≡◌ {A = ℕ} 0 1 = cc in absurd (omega arith)
