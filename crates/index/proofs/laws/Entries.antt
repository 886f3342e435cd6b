-- The entries and items that an index stands for, one after the other: how a rule is judged by a loop over them. Assumes nothing.
use Rattle.std.specs.Prelude.{◌≡◌, Bool, true, false, ◌||◌, eqb, length, get_or}
use Rattle.std.proofs.Math.Path.{refl, ap}
use Rattle.std.proofs.Common.{◌∙◌}
use mathlib.Core.List.{List, [], ◌∷◌}
use Prim.Native.Nat.{ℕ, zero, suc, ◌+◌, ◌*◌, ◌-◌, ◌≤◌, ◌<◌, min}
use native.Mathlib.Omega.{arith}
use Rattle.text.specs.Reading.{Text, pick}
use Rattle.manifest.specs.View.{Cell, absent, one}
use Rattle.manifest.specs.Rows.{Entry, Item, the, every, any, any_at, flat, entries, its_items}
use Rattle.manifest.specs.Rules.{Rule, applies}
use Rattle.index.specs.Index.{col_of, item_of, entries_in, items_in, at, listed, item_by, entry_by, items_from, entry_at, manifest_of}

-- ---- lists by number

module _ {A : Type 0} (f : ℕ → A) where
  pub listed_length : (i n : ℕ) → length (listed f i n) ≡ n
  unfolding listed
  listed_length i zero = refl
  listed_length i (suc n) = ap suc (listed_length (suc i) n)

-- from number i on, of n in all
module _ {A : Type 0} (f : ℕ → A) (n : ℕ) where
  unfoldable pub from : ℕ → List A
  from i = listed f i (n - i)

  pub from_past : (i : ℕ) → n ≤ i → from i ≡ []
  unfolding from listed
  from_past i h = let e : n - i ≡ 0 = omega arith in ap (listed f i) e

  pub from_here : (i : ℕ) → i < n → from i ≡ f i ∷ from (suc i)
  unfolding from listed
  from_here i h = let e : n - i ≡ suc (n - suc i) = omega arith in ap (listed f i) e

  -- a test of the elements from number i on: past the last, where it holds, and where it does not
  module _ (p : A → Bool) where
    pub any_past : (i : ℕ) → n ≤ i → any p (from i) ≡ false
    unfolding any
    any_past i h = ap (any p) (from_past i h)

    pub any_found : (i : ℕ) → i < n → p (f i) ≡ true → any p (from i) ≡ true
    unfolding any
    any_found i h e = ap (any p) (from_here i h) ∙ ap (λ (b : Bool). b || any p (from (suc i))) e

    pub any_on : (i : ℕ) → i < n → p (f i) ≡ false → any p (from i) ≡ any p (from (suc i))
    unfolding any
    any_on i h e = ap (any p) (from_here i h) ∙ ap (λ (b : Bool). b || any p (from (suc i))) e

  -- and a test of the elements with their numbers
  module _ (p : ℕ → A → Bool) where
    pub any_at_past : (i : ℕ) → n ≤ i → any_at p i (from i) ≡ false
    unfolding any_at
    any_at_past i h = ap (any_at p i) (from_past i h)

    pub any_at_found : (i : ℕ) → i < n → p i (f i) ≡ true → any_at p i (from i) ≡ true
    unfolding any_at
    any_at_found i h e = ap (any_at p i) (from_here i h) ∙ ap (λ (b : Bool). b || any_at p (suc i) (from (suc i))) e

    pub any_at_on : (i : ℕ) → i < n → p i (f i) ≡ false → any_at p i (from i) ≡ any_at p (suc i) (from (suc i))
    unfolding any_at
    any_at_on i h e = ap (any_at p i) (from_here i h) ∙ ap (λ (b : Bool). b || any_at p (suc i) (from (suc i))) e

-- ---- the entries

-- entry i as an item of `files`
abbrev pub entry_cell : Text → List ℕ → ℕ → Cell Entry
entry_cell s ix i = one (entry_at s ix i)

pub entries_are : (s : Text) (ix : List ℕ) → entries (manifest_of s ix) ≡ from (entry_cell s ix) (entries_in ix) 0
unfolding manifest_of at every entries_in from pick listed
entries_are s ix = go (eqb (get_or ix 0 0) 0) (min 32 (get_or ix 5 0))
  where
    go : (b : Bool) (n : ℕ) → every (pick b absent (one (listed (entry_cell s ix) 0 (pick b 0 n)))) ≡ listed (entry_cell s ix) 0 (pick b 0 n - 0)
    go true n = refl
    go false n = let e : n ≡ n - 0 = omega arith in ap (listed (entry_cell s ix) 0) e

-- rule r applies in an entry from number i on
unfoldable pub from_entry : Rule → Text → List ℕ → ℕ → Bool
from_entry r s ix i = any_at (r.within (manifest_of s ix)) i (from (entry_cell s ix) (entries_in ix) i)

module _ (r : Rule) (s : Text) (ix : List ℕ) where
  pub applies_is : applies r (manifest_of s ix) ≡ (r.outside (manifest_of s ix) || from_entry r s ix 0)
  unfolding applies from_entry
  applies_is = ap (λ (l : List (Cell Entry)). r.outside (manifest_of s ix) || any_at (r.within (manifest_of s ix)) 0 l) (entries_are s ix)

  -- outside, where the rule applies there; and where it does not
  pub applies_outside : r.outside (manifest_of s ix) ≡ true → applies r (manifest_of s ix) ≡ true
  applies_outside e = applies_is ∙ ap (λ (b : Bool). b || from_entry r s ix 0) e

  pub applies_within : r.outside (manifest_of s ix) ≡ false → applies r (manifest_of s ix) ≡ from_entry r s ix 0
  applies_within e = applies_is ∙ ap (λ (b : Bool). b || from_entry r s ix 0) e

  pub entry_past : (i : ℕ) → entries_in ix ≤ i → from_entry r s ix i ≡ false
  unfolding from_entry
  entry_past i h = any_at_past (entry_cell s ix) (entries_in ix) (r.within (manifest_of s ix)) i h

  pub entry_found : (i : ℕ) → i < entries_in ix → r.within (manifest_of s ix) i (entry_cell s ix i) ≡ true → from_entry r s ix i ≡ true
  unfolding from_entry
  entry_found i h e = any_at_found (entry_cell s ix) (entries_in ix) (r.within (manifest_of s ix)) i h e

  pub entry_on : (i : ℕ) → i < entries_in ix → r.within (manifest_of s ix) i (entry_cell s ix i) ≡ false → from_entry r s ix i ≡ from_entry r s ix (suc i)
  unfolding from_entry
  entry_on i h e = any_at_on (entry_cell s ix) (entries_in ix) (r.within (manifest_of s ix)) i h e

-- ---- the items of an entry

abbrev pub item_at : Text → List ℕ → ℕ → ℕ → Item
item_at s ix i k = item_by s (item_of ix i k)

flat_ones : {A : Type 0} (f : ℕ → A) (i n : ℕ) → flat the (listed (λ k. one (f k)) i n) ≡ listed f i n
unfolding flat the listed
flat_ones f i zero = refl
flat_ones f i (suc n) = ap (λ (l : List _). f i ∷ l) (flat_ones f (suc i) n)

pub items_are : (s : Text) (ix : List ℕ) (i : ℕ) → its_items (entry_at s ix i) ≡ from (item_at s ix i) (items_in ix i) 0
unfolding entry_at entry_by items_from at every items_in from pick listed flat
items_are s ix i = go (eqb (col_of ix i 3) 0) (min 32 (get_or ix (6 + (77 * i + 12)) 0))
  where
    go : (b : Bool) (n : ℕ) → flat the (every (pick b absent (one (listed (λ k. one (item_at s ix i k)) 0 (pick b 0 n))))) ≡ listed (item_at s ix i) 0 (pick b 0 n - 0)
    go true n = refl
    go false n = flat_ones (item_at s ix i) 0 n ∙ (let e : n ≡ n - 0 = omega arith in ap (listed (item_at s ix i) 0) e)
