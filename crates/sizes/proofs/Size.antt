-- 10 at an index: it never holds too many entries or items, so that what is told decides. Assumes nothing.
use mathlib.Core.Path.{◌≡◌, refl, sym, ap, ◌∙◌}
use mathlib.Core.Bool.{Bool, true, false, ◌||◌, or-false}
use mathlib.Core.List.{List}
use Prim.Native.Nat.{ℕ, zero, suc, ◌+◌, ◌*◌, ◌-◌, ◌≤◌, min}
use native.Mathlib.Omega.{arith}
use lib.Dec.{eqb, ltb}
use lib.ListN.{length, get_or}
use borrow.Author.Tests.{le-ltb}
use Rattle.text.specs.Reading.{Text, pick}
use Rattle.manifest.specs.View.{Cell, absent, one}
use Rattle.manifest.specs.Rows.{Item, machines_of, every, holds, any_at, entries}
use Rattle.manifest.specs.Rules.{applies, most_entries, most_items}
use Rattle.index.specs.Index.{at, col_of, entries_in, items_in, listed, item_by, item_of, items_from, entry_by, entry_at, manifest_of}
use Rattle.index.proofs.laws.Entries.{from, listed_length, entry_cell, entries_are, from_entry, applies_is}
use Rattle.sizes.specs.Sizes.{size_rule}

-- ---- counts

few : (b : Bool) (n : ℕ) → pick b 0 (min 32 n) ≤ 32
unfolding pick
few true n = omega arith
few false n = omega arith

few_entries : (s : Text) (ix : List ℕ) → ltb most_entries (length (entries (manifest_of s ix))) ≡ false
unfolding from entries_in
few_entries s ix =
    let e : length (entries (manifest_of s ix)) ≡ entries_in ix - 0 = ap length (entries_are s ix) ∙ listed_length (entry_cell s ix) 0 (entries_in ix - 0) in
    let h : entries_in ix ≤ 32 = few (eqb (get_or ix 0 0) 0) (get_or ix 5 0) in
    le-ltb 32 (length (entries (manifest_of s ix))) (omega arith)

few_items : (s : Text) (ix : List ℕ) (i : ℕ) → ltb most_items (length (every (machines_of (entry_at s ix i)))) ≡ false
unfolding entry_at entry_by items_from items_in at every pick
few_items s ix i = go (eqb (col_of ix i 3) 0)
  where
    go : (b : Bool) → ltb 32 (length (every (pick b absent (one (listed {A = Cell Item} (λ k. one (item_by s (item_of ix i k))) 0 (items_in ix i)))))) ≡ false
    go true = refl
    go false =
        let e : length (listed {A = Cell Item} (λ k. one (item_by s (item_of ix i k))) 0 (items_in ix i)) ≡ items_in ix i = listed_length (λ k. one (item_by s (item_of ix i k))) 0 (items_in ix i) in
        let h : items_in ix i ≤ 32 = few (eqb (col_of ix i 3) 0) (get_or ix (6 + (77 * i + 12)) 0) in
        le-ltb 32 (length (listed {A = Cell Item} (λ k. one (item_by s (item_of ix i k))) 0 (items_in ix i))) (omega arith)

-- ---- the rule

-- a test that holds of no element of a list by number
any_at_listed : {A : Type 0} (p : ℕ → A → Bool) (f : ℕ → A) → ((i : ℕ) → p i (f i) ≡ false) → (i n : ℕ) → any_at p i (listed f i n) ≡ false
unfolding any_at listed
any_at_listed p f h i zero = refl
any_at_listed p f h i (suc n) = λ k. h i k || any_at_listed p f h (suc i) n k

module _ (s : Text) (ix : List ℕ) (broken : Bool) where
  in_no_entry : from_entry (size_rule broken) s ix 0 ≡ false
  unfolding from_entry from size_rule holds
  in_no_entry = any_at_listed ((size_rule broken).within (manifest_of s ix)) (entry_cell s ix) (λ i. few_items s ix i) 0 (entries_in ix - 0)

  pub told_decides : broken ≡ applies (size_rule broken) (manifest_of s ix)
  unfolding size_rule
  told_decides = sym (applies_is (size_rule broken) s ix ∙ (λ k. (broken || few_entries s ix k) || in_no_entry k) ∙ or-false (broken || false) ∙ or-false broken)
