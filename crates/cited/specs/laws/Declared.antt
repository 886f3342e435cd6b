-- The machines that entry i declares, by positions: its `machine`, and its items one after the other. Assumes nothing.
use Rattle.std.specs.Prelude.{◌≡◌, refl, Bool, true, false, ◌||◌, List, ℕ, zero, suc, ◌+◌, ◌-◌, ◌≤◌, ◌<◌}
use Rattle.std.proofs.Math.Path.{sym, ap}
use Rattle.std.proofs.Common.{◌∙◌, add-one}
use Rattle.std.proofs.Math.Bool.{or-true}
use native.Mathlib.Omega.{arith}
use Rattle.text.specs.Reading.{Text}
use Rattle.grammar.specs.Tree.{same}
use Rattle.grammar.proofs.laws.Order.{same_refl}
use Rattle.manifest.specs.Rows.{Item, machine_of, its_name, item_name, the, holds, any, flat, its_items, declared}
use Rattle.manifest.proofs.laws.Lists.{any_append}
use Rattle.index.specs.Index.{col_of, item_of, items_in, text_at, text_cell, listed, item_by, entry_by, entry_at}
use Rattle.index.proofs.laws.Entries.{from, item_at, items_are, any_past, any_found, any_on}
use Rattle.cited.specs.laws.Cells.{holds_none, holds_some, any_the, any_flat_the}

-- t is the name of the `machine` of entry i
unfoldable pub machine_is : Text → List ℕ → ℕ → Text → Bool
machine_is s ix i t = holds (λ v. holds (same t) (its_name v)) (machine_of (entry_at s ix i))

-- t is the name of item v
abbrev pub item_is : Text → Item → Bool
item_is t v = holds (same t) (item_name v)

-- t is the name of an item of entry i, from item k on
unfoldable pub items_name : Text → List ℕ → ℕ → Text → ℕ → Bool
items_name s ix i t k = any (item_is t) (from (item_at s ix i) (items_in ix i) k)

module _ (s : Text) (ix : List ℕ) (i : ℕ) (t : Text) where
  pub declared_is : any (same t) (declared (entry_at s ix i)) ≡ (machine_is s ix i t || items_name s ix i t 0)
  unfolding machine_is items_name
  declared_is =
      any_append (same t) (flat (λ v. the (its_name v)) (the (machine_of (entry_at s ix i)))) (flat (λ v. the (item_name v)) (its_items (entry_at s ix i)))
      ∙ (λ j. machine j || item j)
    where
      machine : any (same t) (flat (λ v. the (its_name v)) (the (machine_of (entry_at s ix i)))) ≡ holds (λ v. holds (same t) (its_name v)) (machine_of (entry_at s ix i))
      machine = any_flat_the (same t) (λ v. its_name v) (the (machine_of (entry_at s ix i))) ∙ any_the (λ v. holds (same t) (its_name v)) (machine_of (entry_at s ix i))

      item : any (same t) (flat (λ v. the (item_name v)) (its_items (entry_at s ix i))) ≡ any (item_is t) (from (item_at s ix i) (items_in ix i) 0)
      item = any_flat_the (same t) (λ v. item_name v) (its_items (entry_at s ix i)) ∙ ap (any (item_is t)) (items_are s ix i)

  -- its `machine`
  module _ {x : ℕ} (ex : x ≡ col_of ix i 1) where
    pub no_machine : x ≡ 0 → false ≡ machine_is s ix i t
    unfolding machine_is entry_at entry_by
    no_machine h = sym (holds_none (λ v. holds (same t) (its_name v)) (col_of ix i 1) (text_cell s (col_of ix i 2), tt) (sym ex ∙ h))

    pub some_machine : (x ≡ 0 → ⊥) → {y : ℕ} → y ≡ col_of ix i 2 → {b : Bool} → b ≡ holds (same t) (text_cell s y) → b ≡ machine_is s ix i t
    unfolding machine_is entry_at entry_by
    some_machine h ey eb =
        eb ∙ (ap (λ (p : ℕ). holds (same t) (text_cell s p)) ey
        ∙ sym (holds_some (λ v. holds (same t) (its_name v)) (col_of ix i 1) (text_cell s (col_of ix i 2), tt) (λ z. h (ex ∙ z))))

  -- the loop over its items
  module _ {m : Bool} (em : m ≡ machine_is s ix i t) where
    pub declared_machine : m ≡ true → true ≡ any (same t) (declared (entry_at s ix i))
    declared_machine h = sym (declared_is ∙ ap (λ (b : Bool). b || items_name s ix i t 0) (sym em ∙ h))

    pub declared_start : m ≡ false → any (same t) (declared (entry_at s ix i)) ≡ items_name s ix i t 0
    declared_start h = declared_is ∙ ap (λ (b : Bool). b || items_name s ix i t 0) (sym em ∙ h)

  module _ {n k : ℕ} (en : n ≡ items_in ix i) (inv : any (same t) (declared (entry_at s ix i)) ≡ items_name s ix i t k) where
    pub declared_past : n ≤ k → false ≡ any (same t) (declared (entry_at s ix i))
    unfolding items_name
    declared_past h = sym (inv ∙ any_past (item_at s ix i) (items_in ix i) (item_is t) k (omega arith))

    module _ (below : k < n) {p : ℕ} (ep : p ≡ item_of ix i k 1) {b : Bool} (eb : b ≡ holds (same t) (text_cell s p)) where
      item_here : b ≡ item_is t (item_at s ix i k)
      unfolding item_by
      item_here = eb ∙ ap (λ (q : ℕ). holds (same t) (text_cell s q)) ep

      pub declared_here : b ≡ true → true ≡ any (same t) (declared (entry_at s ix i))
      unfolding items_name
      declared_here h = sym (inv ∙ any_found (item_at s ix i) (items_in ix i) (item_is t) k (omega arith) (sym item_here ∙ h))

      pub declared_on : b ≡ false → any (same t) (declared (entry_at s ix i)) ≡ items_name s ix i t (k + 1)
      unfolding items_name
      declared_on h =
          inv ∙ (any_on (item_at s ix i) (items_in ix i) (item_is t) k (omega arith) (sym item_here ∙ h)
          ∙ ap (λ (j : ℕ). any (item_is t) (from (item_at s ix i) (items_in ix i) j)) (sym (add-one k)))

-- ---- a name that entry i declares at p itself

-- a test that holds of one of n elements
any_one : {A : Type 0} (p : A → Bool) (f : ℕ → A) (i n k : ℕ) → k < n → p (f (i + k)) ≡ true → any p (listed f i n) ≡ true
unfolding any listed
any_one p f i zero k h e = absurd (omega arith)
any_one p f i (suc n) zero h e =
    let z : i ≡ i + 0 = omega arith in
    ap (λ (b : Bool). b || any p (listed f (suc i) n)) (ap (λ (j : ℕ). p (f j)) z ∙ e)
any_one p f i (suc n) (suc k) h e =
    let z : suc i + k ≡ i + suc k = omega arith in
    ap (λ (b : Bool). p (f i) || b) (any_one p f (suc i) n k (omega arith) (ap (λ (j : ℕ). p (f j)) z ∙ e)) ∙ or-true (p (f i))

module _ (s : Text) (ix : List ℕ) (i p : ℕ) (there : p ≡ 0 → ⊥) where
  itself : true ≡ holds (same (text_at s p)) (text_cell s p)
  itself = sym (holds_some (same (text_at s p)) p (text_at s p) there ∙ same_refl (text_at s p))

  pub stands_machine : {x : ℕ} → x ≡ col_of ix i 1 → (x ≡ 0 → ⊥) → {y : ℕ} → y ≡ col_of ix i 2 → y ≡ p → any (same (text_at s p)) (declared (entry_at s ix i)) ≡ true
  stands_machine ex h ey e =
      sym (declared_machine s ix i (text_at s p) (some_machine s ix i (text_at s p) ex h (sym e ∙ ey) itself) refl)

  pub stands_item : {n k : ℕ} → n ≡ items_in ix i → k < n → {y : ℕ} → y ≡ item_of ix i k 1 → y ≡ p → any (same (text_at s p)) (declared (entry_at s ix i)) ≡ true
  unfolding items_name from item_by
  stands_item {n} {k} en h ey e =
      let b : k < items_in ix i - 0 = omega arith in
      let z : 0 + k ≡ k = omega arith in
      declared_is s ix i (text_at s p)
      ∙ ap (λ (b : Bool). machine_is s ix i (text_at s p) || b)
      (any_one (item_is (text_at s p)) (item_at s ix i) 0 (items_in ix i - 0) k b
      (ap (λ (j : ℕ). item_is (text_at s p) (item_at s ix i j)) z ∙ ap (λ (q : ℕ). holds (same (text_at s p)) (text_cell s q)) (sym ey ∙ e) ∙ sym itself))
      ∙ or-true (machine_is s ix i (text_at s p))
