-- The entry of a path: how a loop over the entries finds it, and that it is the one that the rules find. Assumes nothing.
use Rattle.std.specs.Prelude.{◌≡◌, refl, Bool, true, false, ◌⊎◌, ℕ, zero, suc, ◌+◌, ◌*◌, ◌-◌, ◌≤◌, ◌<◌, min, eqb, ltb, get_or}
use Rattle.std.proofs.Math.Path.{sym, ap}
use Rattle.std.proofs.Common.{◌∙◌, inl, inr, arith, add-one, eq-eqb, ne_eqb, lt-ltb, ltb-true}
use mathlib.Core.List.{List}
use Rattle.std.proofs.Math.Decide.{ℕ_discrete}
use Rattle.text.specs.Reading.{Text, pick}
use Rattle.text.specs.laws.Readers.{pick_true, pick_false}
use Rattle.grammar.specs.Tree.{same}
use Rattle.manifest.specs.View.{Cell, absent, one}
use Rattle.manifest.specs.Rows.{Entry, onto, holds, first_or, entries}
use Rattle.manifest.specs.Rules.{has_path, find, named_entry}
use Rattle.index.specs.Index.{text_at, col_of, entries_in, items_in, at, text_cell, listed, entry_by, entry_at, manifest_of}
use Rattle.index.proofs.laws.Entries.{from, entry_cell, entries_are}
use Rattle.index.specs.Cited.{entry_of}
use Rattle.index.proofs.laws.Firsts.{first_past, first_found, first_on, first_among}

-- the first entry with a path, from number i on; 32 if there is none
unfoldable pub entry_from : Text → List ℕ → Text → ℕ → ℕ
entry_from s ix t i = first_or 32 (holds (has_path t)) (from (entry_cell s ix) (entries_in ix) i) i

-- a path stands at q or not
module _ (s t : Text) (q : ℕ) where
  pub path_none : q ≡ 0 → false ≡ holds (same t) (text_cell s q)
  unfolding at holds
  path_none h = sym (ap (holds (same t)) (pick_true _ _ (eq-eqb q 0 h)))

  pub path_some : (q ≡ 0 → ⊥) → {b : Bool} → b ≡ same t (text_at s q) → b ≡ holds (same t) (text_cell s q)
  unfolding at holds
  path_some h e = e ∙ sym (ap (holds (same t)) (pick_false _ _ (ne_eqb q 0 h)))

  -- where another text stands, the path is not t
  pub path_other : same t (text_at s q) ≡ false → false ≡ holds (same t) (text_cell s q)
  path_other e = go (ℕ_discrete q 0)
    where
      go : Dec (q ≡ 0) → false ≡ holds (same t) (text_cell s q)
      go (yes h) = path_none h
      go (no h) = path_some h (sym e)

-- an index holds at most 32 entries
pub few_entries : (ix : List ℕ) → entries_in ix ≤ 32
unfolding entries_in pick
few_entries ix = go (eqb (get_or ix 0 0) 0)
  where
    go : (b : Bool) → pick b 0 (min 32 (get_or ix 5 0)) ≤ 32
    go true = omega arith
    go false = omega arith

-- and an entry in it at most 32 items
pub few_items : (ix : List ℕ) (i : ℕ) → items_in ix i ≤ 32
unfolding items_in pick
few_items ix i = go (eqb (col_of ix i 3) 0)
  where
    go : (b : Bool) → pick b 0 (min 32 (get_or ix (6 + (77 * i + 12)) 0)) ≤ 32
    go true = omega arith
    go false = omega arith

module _ (s : Text) (ix : List ℕ) (t : Text) where
  pub entry_start : entry_of (manifest_of s ix) t ≡ entry_from s ix t 0
  unfolding entry_of entry_from
  entry_start = ap (λ (l : List (Cell Entry)). first_or 32 (holds (has_path t)) l 0) (entries_are s ix)

  -- n is the number of entries
  module _ {n : ℕ} (en : n ≡ entries_in ix) (i : ℕ) where
    pub entry_past : n ≤ i → entry_from s ix t i ≡ 32
    unfolding entry_from
    entry_past h = first_past (entry_cell s ix) (entries_in ix) 32 (holds (has_path t)) i (omega arith)

    -- and p is where the path of entry i stands
    module _ (h : i < n) {p : ℕ} (ep : p ≡ col_of ix i 0) where
      -- r says whether it is t
      module _ {r : Bool} (er : r ≡ holds (same t) (text_cell s p)) where
        asked : has_path t (entry_at s ix i) ≡ r
        unfolding entry_at entry_by
        asked = ap (λ (q : ℕ). holds (same t) (text_cell s q)) (sym ep) ∙ sym er

        pub entry_on : r ≡ false → entry_from s ix t i ≡ entry_from s ix t (i + 1)
        unfolding entry_from holds
        entry_on e =
            first_on (entry_cell s ix) (entries_in ix) 32 (holds (has_path t)) i (omega arith) (asked ∙ e)
            ∙ ap (entry_from s ix t) (sym (add-one i))

        pub entry_here : r ≡ true → entry_from s ix t i ≡ i
        unfolding entry_from holds
        entry_here e = first_found (entry_cell s ix) (entries_in ix) 32 (holds (has_path t)) i (omega arith) (asked ∙ e)

      pub entry_bare : p ≡ 0 → entry_from s ix t i ≡ entry_from s ix t (i + 1)
      entry_bare z = entry_on (path_none s t p z) refl

      pub entry_other : (p ≡ 0 → ⊥) → same t (text_at s p) ≡ false → entry_from s ix t i ≡ entry_from s ix t (i + 1)
      entry_other z e = entry_on (path_some s t p z (sym e)) refl

      pub entry_found : (p ≡ 0 → ⊥) → same t (text_at s p) ≡ true → entry_from s ix t i ≡ i
      entry_found z e = entry_here (path_some s t p z (sym e)) refl

-- ---- the rules' search

-- what is found: the entry and its number; nothing, if the number is 32
abbrev pub found_at : Text → List ℕ → ℕ → Cell (ℕ × Entry)
found_at s ix e = pick (ltb e 32) (one (e, entry_at s ix e)) absent

finds : (s : Text) (ix : List ℕ) (t : Text) (i k : ℕ) → i + k ≤ 32
    → find t i (listed (entry_cell s ix) i k) ≡ found_at s ix (first_or 32 (holds (has_path t)) (listed (entry_cell s ix) i k) i)
unfolding find first_or holds listed pick
finds s ix t i zero h = refl
finds s ix t i (suc k) h = go (has_path t (entry_at s ix i)) (finds s ix t (suc i) k (omega arith))
  where
    more : ℕ
    more = first_or 32 (holds (has_path t)) (listed (entry_cell s ix) (suc i) k) (suc i)

    later : Cell (ℕ × Entry)
    later = find t (suc i) (listed (entry_cell s ix) (suc i) k)

    go : (b : Bool) → later ≡ found_at s ix more → pick b (one (i, entry_at s ix i)) later ≡ found_at s ix (pick b i more)
    go true e = sym (pick_true _ _ (lt-ltb i 32 (omega arith)))
    go false e = e

pub find_right : (s : Text) (ix : List ℕ) (t : Text) → find t 0 (entries (manifest_of s ix)) ≡ found_at s ix (entry_of (manifest_of s ix) t)
unfolding from entry_of
find_right s ix t =
    ap (find t 0) (entries_are s ix)
    ∙ finds s ix t 0 (entries_in ix - 0) (omega (arith, few_entries ix))
    ∙ ap (λ (l : List (Cell Entry)). found_at s ix (first_or 32 (holds (has_path t)) l 0)) (sym (entries_are s ix))

pub named_right : (s : Text) (ix : List ℕ) (p : ℕ) → named_entry (manifest_of s ix) (text_cell s p) ≡ at p (found_at s ix (entry_of (manifest_of s ix) (text_at s p)))
unfolding at onto pick
named_right s ix p = go (eqb p 0)
  where
    go : (b : Bool)
        → onto (pick b absent (one (text_at s p))) (λ t. find t 0 (entries (manifest_of s ix)))
        ≡ pick b absent (found_at s ix (entry_of (manifest_of s ix) (text_at s p)))
    go true = refl
    go false = find_right s ix (text_at s p)

-- it is one of the entries that the index holds
pub below : (s : Text) (ix : List ℕ) (t : Text) → ltb (entry_of (manifest_of s ix) t) 32 ≡ true → entry_of (manifest_of s ix) t < entries_in ix
unfolding entry_from from
below s ix t h = go (first_among (entry_cell s ix) 32 (holds (has_path t)) 0 (entries_in ix - 0))
  where
    go : (entry_from s ix t 0 ≡ 32) ⊎ (entry_from s ix t 0 < 0 + (entries_in ix - 0)) → entry_of (manifest_of s ix) t < entries_in ix
    go (inl e) = absurd (omega (arith, ltb-true (entry_of (manifest_of s ix) t) 32 h, entry_start s ix t))
    go (inr l) = omega (arith, entry_start s ix t)
