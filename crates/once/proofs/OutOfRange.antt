-- 14: an id of an entry is out of range; an item at a time. Assumes nothing.
use mathlib.Core.Path.{◌≡◌, refl, sym, ap, ◌∙◌}
use mathlib.Core.Bool.{Bool, true, false, ◌||◌}
use mathlib.Core.List.{List, [], ◌++◌}
use Prim.Native.Nat.{ℕ, suc, ◌+◌, ◌≤◌, ◌<◌}
use native.Mathlib.Omega.{arith}
use lib.IntN.{ℤ}
use Rattle.text.specs.Reading.{Text}
use Rattle.manifest.specs.View.{Cell, absent, wrong, many, one}
use Rattle.manifest.specs.Rows.{Item, id, ids, the, holds, any, flat}
use Rattle.manifest.specs.Rules.{no_id, refusal_14_id_out_of_range}
use Rattle.index.specs.Index.{item_of, items_in, id_cell, item_by, entry_at}
use Rattle.index.proofs.laws.Entries.{from_past, from_here, item_at, items_are}
use Rattle.once.specs.laws.Parts.{in_entry, ids_from}

-- ---- the ids of an entry, one after the other

module _ (s : Text) (ix : List ℕ) (i : ℕ) where
  pub ids_are : ids (entry_at s ix i) ≡ ids_from s ix i 0
  unfolding ids_from
  ids_are = ap (flat (λ (v : Item). the (id v))) (items_are s ix i)

  pub ids_past : (k : ℕ) → items_in ix i ≤ k → ids_from s ix i k ≡ []
  unfolding ids_from flat
  ids_past k h = ap (flat (λ (v : Item). the (id v))) (from_past (item_at s ix i) (items_in ix i) k h)

  pub ids_here : (k : ℕ) → k < items_in ix i → ids_from s ix i k ≡ the (id_cell s (item_of ix i k 0)) ++ ids_from s ix i (suc k)
  unfolding ids_from flat item_by
  ids_here k h = ap (flat (λ (v : Item). the (id v))) (from_here (item_at s ix i) (items_in ix i) k h)

pub any_the : {A : Type 0} (p : A → Bool) (c : Cell A) (l : List A) → any p (the c ++ l) ≡ (holds p c || any p l)
unfolding any the holds
any_the p absent l = refl
any_the p wrong l = refl
any_the p (many j) l = refl
any_the p (one a) l = refl

-- a test of the ids: n items are looked at, from item k on
module _ (p : ℤ → Bool) (s : Text) (ix : List ℕ) (i : ℕ) {n : ℕ} (en : n ≡ items_in ix i) {k : ℕ} {t : Bool} (inv : t ≡ any p (ids_from s ix i k)) where
  pub ids_none : n ≤ k → false ≡ t
  unfolding any
  ids_none h = sym (inv ∙ ap (any p) (ids_past s ix i k (omega arith)))

  module _ (h : k < n) {q : ℕ} (eq : q ≡ item_of ix i k 0) {b : Bool} (eb : b ≡ holds p (id_cell s q)) where
    turned : t ≡ (b || any p (ids_from s ix i (suc k)))
    turned =
        inv ∙ ap (any p) (ids_here s ix i k (omega arith)) ∙ any_the p (id_cell s (item_of ix i k 0)) (ids_from s ix i (suc k))
        ∙ ap (λ (c : Bool). c || any p (ids_from s ix i (suc k))) (ap (λ (x : ℕ). holds p (id_cell s x)) (sym eq) ∙ sym eb)

    pub ids_found : b ≡ true → true ≡ t
    ids_found e = sym (turned ∙ ap (λ (c : Bool). c || any p (ids_from s ix i (suc k))) e)

    pub ids_on : b ≡ false → t ≡ any p (ids_from s ix i (k + 1))
    ids_on e =
        let z : suc k ≡ k + 1 = omega arith in
        turned ∙ ap (λ (c : Bool). c || any p (ids_from s ix i (suc k))) e ∙ ap (λ (j : ℕ). any p (ids_from s ix i j)) z

-- ---- 14 in entry i

pub range_start : (s : Text) (ix : List ℕ) (i : ℕ) → in_entry refusal_14_id_out_of_range s ix i ≡ any no_id (ids_from s ix i 0)
unfolding refusal_14_id_out_of_range holds
range_start s ix i = ap (any no_id) (ids_are s ix i)
