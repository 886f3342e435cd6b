-- The listings of a manifest that tables stand for: one for each entry, in the same places. Assumes nothing.
use Rattle.std.specs.Prelude.{◌≡◌, true, List, ◌∷◌, length, get_or}
use Rattle.std.proofs.Math.Path.{refl, ap, subst}
use Rattle.std.proofs.Common.{◌∙◌}
use Prim.Native.Nat.{ℕ, zero, suc, ◌+◌, ◌-◌, ◌<◌}
use native.Mathlib.Omega.{arith}
use Rattle.text.specs.Reading.{Text, pick}
use Rattle.grammar.specs.Tree.{same}
use Rattle.manifest.specs.Kinds.{entry}
use Rattle.manifest.specs.View.{Cell, one}
use Rattle.manifest.specs.Rows.{Manifest, Entry, path, first_or, holds, entries}
use Rattle.manifest.specs.Rules.{has_path, refusal_5_or_later}
use Rattle.manifest.specs.Meaning.{Listed, text_or, listing, listings}
use Rattle.manifest.specs.Statements.{At, here, further, All, all_none, all_one, Meets, stands, SoundRow}
use Rattle.manifest.proofs.laws.Accepted.{entries_sound}
use Rattle.index.specs.Index.{entries_in, listed, entry_at, manifest_of}
use Rattle.index.proofs.laws.Entries.{from, entry_cell, entries_are}
use Rattle.index.specs.Cited.{entry_of}

module _ {A : Type 0} (f : ℕ → A) where
  -- element k of a list by number
  pub listed_at : (j n k : ℕ) → k < n → At (listed f j n) k (f (j + k))
  unfolding listed
  listed_at j zero k h = absurd (omega arith)
  listed_at j (suc n) zero h = let e : j ≡ j + 0 = omega arith in subst (λ (i : ℕ). At (f j ∷ listed f (suc j) n) 0 (f i)) e here
  listed_at j (suc n) (suc k) h = let e : suc j + k ≡ j + suc k = omega arith in subst (λ (i : ℕ). At (f j ∷ listed f (suc j) n) (suc k) (f i)) e (further (listed_at (suc j) n k (omega arith)))

module _ (m : Manifest) (f : ℕ → Entry) where
  pub listings_at : (j n k : ℕ) → k < n → (d : Listed) → get_or (listings m j (listed (λ i. one (f i)) j n)) k d ≡ listing m (j + k) (f (j + k))
  unfolding listings listed
  listings_at j zero k h d = absurd (omega arith)
  listings_at j (suc n) zero h d = let e : j ≡ j + 0 = omega arith in ap (λ (k : ℕ). listing m k (f k)) e
  listings_at j (suc n) (suc k) h d =
      let e : suc j + k ≡ j + suc k = omega arith in
      listings_at (suc j) n k (omega arith) d ∙ ap (λ (k : ℕ). listing m k (f k)) e

  pub listings_count : (j n : ℕ) → length (listings m j (listed (λ i. one (f i)) j n)) ≡ n
  unfolding listings listed
  listings_count j zero = refl
  listings_count j (suc n) = ap suc (listings_count (suc j) n)

-- where every item is an entry with a path, entries and listings have their paths in the same places
one_path : (t : Text) {c : Cell Text} → Meets (λ (u : Text). Unit {0}) true c → holds (same t) c ≡ same t (text_or c)
unfolding holds text_or
one_path t (stands u) = refl

pub first_listed : (m : Manifest) (t : Text) (j : ℕ) {l : List (Cell Entry)} → All (λ c. Meets (λ w. SoundRow entry w) true c) l
    → first_or 32 (holds (has_path t)) l j ≡ first_or 32 (λ (x : Listed). same t x.path) (listings m j l) j
unfolding first_or holds listings
first_listed m t j all_none = refl
first_listed m t j (all_one (stands q) r) = λ k. pick (one_path t q.0 k) j (first_listed m t (suc j) r k)

module _ (s : Text) (ix : List ℕ) where
  -- the entries, by number
  entries_listed : entries (manifest_of s ix) ≡ listed (entry_cell s ix) 0 (entries_in ix)
  unfolding from
  entries_listed = let e : entries_in ix - 0 ≡ entries_in ix = omega arith in entries_are s ix ∙ ap (listed (entry_cell s ix) 0) e

  pub entry_at_lem : {i : ℕ} → i < entries_in ix → At (entries (manifest_of s ix)) i (one (entry_at s ix i))
  entry_at_lem {i} h = let e : 0 + i ≡ i = omega arith in rw entries_listed (rw e at (listed_at (entry_cell s ix) 0 (entries_in ix) i h))

  pub listing_is : {i : ℕ} → i < entries_in ix → (d : Listed) → get_or (listings (manifest_of s ix) 0 (entries (manifest_of s ix))) i d ≡ listing (manifest_of s ix) i (entry_at s ix i)
  listing_is {i} h d =
      let e : 0 + i ≡ i = omega arith in
      ap (λ (l : List (Cell Entry)). get_or (listings (manifest_of s ix) 0 l) i d) entries_listed
      ∙ (listings_at (manifest_of s ix) (entry_at s ix) 0 (entries_in ix) i h d ∙ ap (λ (k : ℕ). listing (manifest_of s ix) k (entry_at s ix k)) e)

  pub listings_are : length (listings (manifest_of s ix) 0 (entries (manifest_of s ix))) ≡ entries_in ix
  listings_are =
      ap (λ (l : List (Cell Entry)). length (listings (manifest_of s ix) 0 l)) entries_listed
      ∙ listings_count (manifest_of s ix) (entry_at s ix) 0 (entries_in ix)

pub entry_first : (m : Manifest) (t : Text) → refusal_5_or_later (one m) ≡ 0 → entry_of m t ≡ first_or 32 (λ (x : Listed). same t x.path) (listings m 0 (entries m)) 0
unfolding entry_of
entry_first m t accepted = first_listed m t 0 (entries_sound m accepted)
