-- The entry of a path, where only paths with its print are compared: a path with another print is another text. So by the manifest's table it is the entry that the rules find.
-- Assumes nothing.
use Rattle.std.specs.Prelude.{◌≡◌, Bool, true, false, ◌&&◌, ◌⊎◌, List, eqb}
use Rattle.std.proofs.Math.Path.{refl, sym, ap}
use Rattle.std.proofs.Common.{◌∙◌, inl, inr, add-one, eq-eqb, ne_eqb}
use Prim.Native.Nat.{ℕ, zero, suc, ◌+◌, ◌-◌, ◌≤◌, ◌<◌}
use native.Mathlib.Omega.{arith}
use Rattle.std.proofs.Math.Decide.{ℕ_discrete}
use Rattle.std.proofs.Math.ListN.{get_or}
use Rattle.text.specs.Reading.{Text, pick}
use Rattle.grammar.specs.Tree.{same}
use Rattle.grammar.proofs.laws.Order.{same_true}
use Rattle.manifest.specs.Rows.{first_or, holds}
use Rattle.manifest.specs.Rules.{has_path}
use Rattle.index.specs.Index.{text_at, col_of, entries_in, text_cell, listed, entry_by, entry_at, manifest_of}
use Rattle.index.proofs.laws.Entries.{from, entry_cell}
use Rattle.prints.specs.Prints.{print_of, print_at}
use Rattle.index.specs.Cited.{entry_of}
use Rattle.finds.specs.Finds.{lookups}
use Rattle.index.proofs.laws.Firsts.{first_past, first_found, first_on, first_among}
use Rattle.index.proofs.laws.Paths.{few_entries, path_other, entry_from, entry_start}
use Rattle.finds.specs.laws.Lookups.{lookups_print}
use Rattle.gather.specs.Gathered.{is_listed, entry_with}

-- ---- by a loop

module _ (s : Text) (ix table : List ℕ) (path : Text) where
  -- the first entry with the path, from number i on; 32 if there is none
  unfoldable pub listed_from : ℕ → ℕ
  listed_from i = first_or 32 (is_listed s ix table path) (from (λ j. j) (entries_in ix) i) i

  pub listed_start : entry_with s ix table path ≡ listed_from 0
  unfolding entry_with listed_from from
  listed_start = let e : entries_in ix ≡ entries_in ix - 0 = omega arith in ap (λ (n : ℕ). first_or 32 (is_listed s ix table path) (listed (λ j. j) 0 n) 0) e

  -- an entry's number is at most 32
  pub listed_few : entry_with s ix table path ≤ 32
  unfolding entry_with
  listed_few = go (first_among (λ j. j) 32 (is_listed s ix table path) 0 (entries_in ix))
    where
      go : {e : ℕ} → (e ≡ 32) ⊎ (e < 0 + entries_in ix) → e ≤ 32
      go (inl q) = omega arith
      go (inr l) = omega (arith, few_entries ix)

  -- n is the number of entries, and print is the path's
  module _ {n : ℕ} (en : n ≡ entries_in ix) (i : ℕ) where
    pub listed_past : n ≤ i → listed_from i ≡ 32
    unfolding listed_from
    listed_past h = first_past (λ j. j) (entries_in ix) 32 (is_listed s ix table path) i (omega arith)

    module _ {print : ℕ} (its : print ≡ print_of path) (h : i < n) where
      -- another print
      pub listed_other : (get_or table (96 + i) 0 ≡ print → ⊥) → listed_from i ≡ listed_from (i + 1)
      unfolding listed_from is_listed
      listed_other m =
          first_on (λ j. j) (entries_in ix) 32 (is_listed s ix table path) i (omega arith)
          (ap (λ (b : Bool). b && holds (same path) (text_cell s (col_of ix i 0))) (ne_eqb _ _ (λ e. m (e ∙ sym its))))
          ∙ ap listed_from (sym (add-one i))

      -- its print: r says whether it is the path
      module _ (e : get_or table (96 + i) 0 ≡ print) {p : ℕ} (ep : p ≡ col_of ix i 0) {r : Bool} (er : r ≡ holds (same path) (text_cell s p)) where
        asked : is_listed s ix table path i ≡ r
        unfolding is_listed
        asked =
            ap (λ (b : Bool). b && holds (same path) (text_cell s (col_of ix i 0))) (eq-eqb _ _ (e ∙ its))
            ∙ ap (λ (q : ℕ). holds (same path) (text_cell s q)) (sym ep) ∙ sym er

        pub listed_on : r ≡ false → listed_from i ≡ listed_from (i + 1)
        unfolding listed_from
        listed_on f = first_on (λ j. j) (entries_in ix) 32 (is_listed s ix table path) i (omega arith) (asked ∙ f) ∙ ap listed_from (sym (add-one i))

        pub listed_here : r ≡ true → listed_from i ≡ i
        unfolding listed_from
        listed_here f = first_found (λ j. j) (entries_in ix) 32 (is_listed s ix table path) i (omega arith) (asked ∙ f)

-- ---- by the manifest's table

other_path : (s t : Text) (p : ℕ) {other : ℕ} → other ≡ print_at s p → (other ≡ print_of t → ⊥) → same t (text_at s p) ≡ false
unfolding print_at
other_path s t p {other} e n = go (same t (text_at s p)) refl
  where
    go : (b : Bool) → same t (text_at s p) ≡ b → b ≡ false
    go true h = absurd (n (e ∙ ap print_of (sym (same_true _ _ h))))
    go false h = refl

module _ (s : Text) (ix : List ℕ) (t : Text) where
  -- the print decides nothing that the text would not
  text_decides : (i : ℕ) → i < entries_in ix → is_listed s ix (lookups s ix) t i ≡ holds (same t) (text_cell s (col_of ix i 0))
  unfolding is_listed
  text_decides i h = go (ℕ_discrete (get_or (lookups s ix) (96 + i) 0) (print_of t))
    where
      its : get_or (lookups s ix) (96 + i) 0 ≡ print_at s (col_of ix i 0)
      its = lookups_print s ix i (omega (arith, few_entries ix)) h

      go : Dec (get_or (lookups s ix) (96 + i) 0 ≡ print_of t)
          → eqb (get_or (lookups s ix) (96 + i) 0) (print_of t) && holds (same t) (text_cell s (col_of ix i 0)) ≡ holds (same t) (text_cell s (col_of ix i 0))
      go (yes e) = ap (λ (b : Bool). b && holds (same t) (text_cell s (col_of ix i 0))) (eq-eqb _ _ e)
      go (no n) =
          ap (λ (b : Bool). b && holds (same t) (text_cell s (col_of ix i 0))) (ne_eqb _ _ n)
          ∙ path_other s t (col_of ix i 0) (other_path s t (col_of ix i 0) its n)

  first_same : (i k : ℕ) → i + k ≤ entries_in ix
      → first_or 32 (is_listed s ix (lookups s ix) t) (listed (λ j. j) i k) i ≡ first_or 32 (holds (has_path t)) (listed (entry_cell s ix) i k) i
  unfolding first_or listed holds entry_at entry_by
  first_same i zero h = refl
  first_same i (suc k) h = λ j. pick (text_decides i (omega arith) j) i (first_same (suc i) k (omega arith) j)

  pub entry_listed : entry_with s ix (lookups s ix) t ≡ entry_of (manifest_of s ix) t
  unfolding entry_with entry_from from
  entry_listed =
      let e : entries_in ix ≡ entries_in ix - 0 = omega arith in
      ap (λ (n : ℕ). first_or 32 (is_listed s ix (lookups s ix) t) (listed (λ j. j) 0 n) 0) e
      ∙ (first_same 0 (entries_in ix - 0) (omega arith) ∙ sym (entry_start s ix t))
