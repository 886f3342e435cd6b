-- The item of an id: when an integer is an id, how a loop over the items finds it, and that its name is the one that the rules find. Assumes nothing.
use Rattle.std.specs.Prelude.{◌≡◌, refl, Bool, true, false, ℕ, zero, suc, ◌+◌, ◌-◌, ◌≤◌, ◌<◌, ◌^◌, eqb, ltb, ℤ, pos, negsuc, neg_ℤ}
use Rattle.std.proofs.Math.Path.{sym, ap}
use Rattle.std.proofs.Common.{◌∙◌, arith, add-one, SFits, of_z, eq-eqb, ne_eqb, lt-ltb, le-ltb}
use mathlib.Core.List.{List}
use Rattle.std.proofs.Math.Decide.{dec_lt}
use Rattle.std.specs.Int.Signed.{lt_z}
use Rattle.std.specs.Int.{w64}
use Rattle.text.specs.Reading.{Text, Out, done, bad, deep, pick}
use Rattle.text.specs.Numbers.{number}
use Rattle.text.specs.laws.Readers.{pick_true, pick_false}
use Rattle.values.specs.declared.Integer.{Integer}
use Rattle.values.specs.declared.Integer.TheVariants.{In, Below, Above, None}
use Rattle.values.specs.Integer.{Whole, whole, none, ranged, integer_in, integer_at}
use Rattle.manifest.specs.View.{Cell, as_integer}
use Rattle.manifest.specs.Rows.{Item, id, holds, first_or, its_items}
use Rattle.manifest.specs.Rules.{same_id, name_of_id}
use Rattle.index.specs.Index.{whole_in, whole_at, item_of, items_in, at, text_cell, id_cell, listed, item_by, entry_at}
use Rattle.index.proofs.laws.Entries.{from, item_at, items_are}
use Rattle.finds.specs.Finds.{item_with, name_for}
use Rattle.finds.specs.laws.Swaps.{eqb_swap}
use Rattle.index.proofs.laws.Firsts.{first_past, first_found, first_on}

-- ---- when an integer is an id

-- the integer that the code reads is the index's, in 64 bits
pub integer_whole : (s : Text) (p : ℕ) → integer_at s p ≡ ranged (whole_at s p)
unfolding integer_at whole_at integer_in whole_in ranged
integer_whole s p = go (number s p)
  where
    go : (o : Out Text) → integer_in o ≡ ranged (whole_in o)
    go (done cs j) = refl
    go (bad q) = refl
    go (deep q) = refl

-- whether such an integer is the id z
unfoldable pub is_in : ℕ → Integer → Bool
is_in z (In x) = same_id (pos z) x
is_in z Below = false
is_in z Above = false
is_in z None = false

-- 64 bits hold every id
in_range : (z : ℕ) → z < 2 ^ 63 → (w : Whole) → is_in z (ranged w) ≡ holds (same_id (pos z)) (as_integer w)
unfolding ranged is_in holds as_integer same_id pick
in_range z h (whole (pos n)) = go (dec_lt n (2 ^ 63))
  where
    go : Dec (n < 2 ^ 63) → is_in z (pick (ltb n (2 ^ 63)) (In (pos n)) Above) ≡ eqb z n
    go (yes l) = ap (is_in z) (pick_true _ _ (lt-ltb n (2 ^ 63) l))
    go (no m) = ap (is_in z) (pick_false _ _ (le-ltb n (2 ^ 63) (omega arith))) ∙ sym (ne_eqb z n (λ q. omega arith))
in_range z h (whole (negsuc n)) = negative (lt_z (negsuc n) (neg_ℤ (pos (2 ^ 63)))) (lt_z (negsuc n) (pos (2 ^ 63)))
  where
    negative : (b c : Bool) → is_in z (pick b Below (pick c (In (negsuc n)) Above)) ≡ false
    negative true c = refl
    negative false true = refl
    negative false false = refl
in_range z h none = refl

-- the 64 bits of an integer are those of z only if it is z
same_bits : (z : ℕ) → z < 2 ^ 63 → (x : ℤ) → SFits w64 x → eqb (of_z w64 x) z ≡ same_id (pos z) x
unfolding same_id
same_bits z h (pos n) f = eqb_swap n z
same_bits z h (negsuc n) f = let l : n < 2 ^ 63 = f.sfits in ne_eqb (2 ^ 64 - suc n) z (λ q. omega arith)

module _ (s : Text) (p z : ℕ) where
  pub id_none : p ≡ 0 → false ≡ holds (same_id (pos z)) (id_cell s p)
  unfolding at holds
  id_none e = sym (ap (holds (same_id (pos z))) (pick_true _ _ (eq-eqb p 0 e)))

  -- q is the integer at p
  module _ (some : p ≡ 0 → ⊥) (h : z < 2 ^ 63) {q : Integer} (eq : q ≡ integer_at s p) where
    id_is : is_in z q ≡ holds (same_id (pos z)) (id_cell s p)
    unfolding at
    id_is =
        ap (is_in z) (eq ∙ integer_whole s p)
        ∙ in_range z h (whole_at s p)
        ∙ sym (ap (holds (same_id (pos z))) (pick_false _ _ (ne_eqb p 0 some)))

    pub id_in : {x : ℤ} → q ≡ In x → SFits w64 x → eqb (of_z w64 x) z ≡ holds (same_id (pos z)) (id_cell s p)
    unfolding is_in
    id_in {x} g f = same_bits z h x f ∙ sym (ap (is_in z) g) ∙ id_is

    pub id_below : q ≡ Below → false ≡ holds (same_id (pos z)) (id_cell s p)
    unfolding is_in
    id_below g = sym (ap (is_in z) g) ∙ id_is

    pub id_above : q ≡ Above → false ≡ holds (same_id (pos z)) (id_cell s p)
    unfolding is_in
    id_above g = sym (ap (is_in z) g) ∙ id_is

    pub id_no_integer : q ≡ None → false ≡ holds (same_id (pos z)) (id_cell s p)
    unfolding is_in
    id_no_integer g = sym (ap (is_in z) g) ∙ id_is

-- ---- the item of an id

abbrev has_id : ℕ → Item → Bool
has_id z v = holds (same_id (pos z)) (id v)

-- where the name for an id stands, from item k on; 0 if there is none
unfoldable pub name_from : Text → List ℕ → ℕ → ℕ → ℕ → ℕ
name_from s ix i z k = item_of ix i (first_or 32 (λ v. holds (same_id (pos z)) (id v)) (from (item_at s ix i) (items_in ix i) k) k) 1

-- an index holds no item number 32
pub no_item : (ix : List ℕ) (i j : ℕ) → item_of ix i 32 j ≡ 0
unfolding item_of pick
no_item ix i j = go (ltb i 32)
  where
    go : (b : Bool) → pick {A = ℕ} b 0 0 ≡ 0
    go true = refl
    go false = refl

module _ (s : Text) (ix : List ℕ) (i z : ℕ) where
  pub name_start : name_for s ix i z ≡ name_from s ix i z 0
  unfolding name_for item_with name_from
  name_start = ap (λ (l : List Item). item_of ix i (first_or 32 (has_id z) l 0) 1) (items_are s ix i)

  -- n is the number of items
  module _ {n : ℕ} (en : n ≡ items_in ix i) (k : ℕ) where
    pub name_past : n ≤ k → name_from s ix i z k ≡ 0
    unfolding name_from
    name_past h = ap (λ (e : ℕ). item_of ix i e 1) (first_past (item_at s ix i) (items_in ix i) 32 (has_id z) k (omega arith)) ∙ no_item ix i 1

    -- p is where the id of item k stands, and r says whether it is z
    module _ (h : k < n) {p : ℕ} (ep : p ≡ item_of ix i k 0) {r : Bool} (er : r ≡ holds (same_id (pos z)) (id_cell s p)) where
      tested : has_id z (item_at s ix i k) ≡ r
      unfolding item_by
      tested = ap (λ (q : ℕ). holds (same_id (pos z)) (id_cell s q)) (sym ep) ∙ sym er

      pub name_found : r ≡ true → name_from s ix i z k ≡ item_of ix i k 1
      unfolding name_from
      name_found e = ap (λ (j : ℕ). item_of ix i j 1) (first_found (item_at s ix i) (items_in ix i) 32 (has_id z) k (omega arith) (tested ∙ e))

      pub name_on : r ≡ false → name_from s ix i z k ≡ name_from s ix i z (k + 1)
      unfolding name_from
      name_on e =
          ap (λ (j : ℕ). item_of ix i j 1) (first_on (item_at s ix i) (items_in ix i) 32 (has_id z) k (omega arith) (tested ∙ e))
          ∙ ap (name_from s ix i z) (sym (add-one k))

-- ---- the rules' search

names : (s : Text) (ix : List ℕ) (i z k n : ℕ)
    → name_of_id (pos z) (listed (item_at s ix i) k n) ≡ text_cell s (item_of ix i (first_or 32 (has_id z) (listed (item_at s ix i) k n) k) 1)
unfolding name_of_id first_or listed item_by at pick
names s ix i z k zero = sym (ap (λ (p : ℕ). text_cell s p) (no_item ix i 1))
names s ix i z k (suc n) = go (has_id z (item_at s ix i k)) (names s ix i z (suc k) n)
  where
    more : ℕ
    more = first_or 32 (has_id z) (listed (item_at s ix i) (suc k) n) (suc k)

    later : Cell Text
    later = name_of_id (pos z) (listed (item_at s ix i) (suc k) n)

    go : (b : Bool) → later ≡ text_cell s (item_of ix i more 1) → pick b (text_cell s (item_of ix i k 1)) later ≡ text_cell s (item_of ix i (pick b k more) 1)
    go true e = refl
    go false e = e

pub name_right : (s : Text) (ix : List ℕ) (i z : ℕ) → name_of_id (pos z) (its_items (entry_at s ix i)) ≡ text_cell s (name_for s ix i z)
unfolding from name_from
name_right s ix i z =
    ap (name_of_id (pos z)) (items_are s ix i)
    ∙ names s ix i z 0 (items_in ix i - 0)
    ∙ ap (λ (p : ℕ). text_cell s p) (sym (name_start s ix i z))
