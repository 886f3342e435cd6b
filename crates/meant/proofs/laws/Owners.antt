-- The machines that an entry declares: for the whole file, and for an id. Assumes nothing.
use Rattle.std.specs.Prelude.{◌≡◌, Bool, not, List, ℕ, ◌≤◌, ◌<◌, pos, length}
use Rattle.std.proofs.Math.Path.{refl, sym, ap}
use Rattle.std.proofs.Common.{◌∙◌}
use Rattle.std.proofs.Math.Bool.{true, false}
use Rattle.std.proofs.Math.Dec.{eqb}
use Rattle.text.specs.Reading.{Text, pick}
use Rattle.manifest.specs.Kinds.{array, object, item}
use Rattle.manifest.specs.View.{Cell, absent, wrong, many, one}
use Rattle.manifest.specs.Rows.{Manifest, Entry, Item, Named, machine_of, machines_of, the, every, flat, is_absent, its_items}
use Rattle.manifest.specs.Rules.{refusal_5_or_later, host, called, base, name_of_id}
use Rattle.manifest.specs.Meaning.{nothing, whole_file, parts, names_in, number_of, part, owns_of}
use Rattle.manifest.specs.Statements.{At, here, further, All, all_none, all_one, Meets, left_out, stands, Sound}
use Rattle.manifest.proofs.laws.Accepted.{entries_sound}
use Rattle.index.specs.Index.{text_at, col_of, entries_in, at, text_cell, entry_by, items_from, entry_at, manifest_of, whose_at}
use Rattle.finds.specs.Finds.{name_for, base_at, lookups}
use Rattle.finds.specs.Theorems.{name_is, base_is}
use Rattle.named.specs.Named.{number_at}
use Rattle.finds.specs.laws.Lookups.{lookups_number}
use Rattle.meant.specs.declared.Owned.TheVariants.{Nobody, Whole, Split}
use Rattle.meant.specs.declared.Part.TheVariants.{Undeclared, Of}
use Rattle.meant.specs.Meant.{base_of, owned_of, part_of}
use Rattle.meant.specs.Told.{told_owned, told_part}
use Rattle.meant.proofs.laws.Listings.{entry_at_lem}
use Rattle.meant.proofs.laws.Parts.{part_named, part_named_lem}

-- what holds of all holds of each; and of the value that a cell holds
all_at : {A : Type 0} {P : A → Type 0} {l : List A} {i : ℕ} {a : A} → All P l → At l i a → P a
all_at (all_one p r) here = p
all_at (all_one p r) (further h) = all_at r h
all_at all_none h = elim h [ ]

inside : {A : Type 0} {P : A → Type 0} {r : Bool} {a : A} → Meets P r (one a) → P a
inside (stands p) = p

-- a file that is not split has no items, so it names no machine for an id
pub part_owned : (m : Manifest) (z : ℕ) (e : Entry) → Meets (λ v. Sound (array (object item)) v) false (machines_of e) → told_part z (owns_of m e) ≡ part_named m (name_of_id (pos z) (its_items e))
unfolding owns_of told_part part_named name_of_id every is_absent the flat pick
part_owned m z e = go (machines_of e) (is_absent (machine_of e))
  where
    go : (c : Cell (List (Cell Item))) (b : Bool) → Meets (λ v. Sound (array (object item)) v) false c
        → told_part z (pick (not (is_absent c)) (parts (flat (part m) (flat the (every c)))) (pick b nothing (whole_file (number_of (names_in m) (base e)))))
        ≡ part_named m (name_of_id (pos z) (flat the (every c)))
    go absent true left_out = refl
    go absent false left_out = refl
    go (one l) b (stands q) = part_named_lem m z q
    go wrong b h = elim h [ ]
    go (many _) b h = elim h [ ]

module _ (s : Text) (ix : List ℕ) (few : length (names_in (manifest_of s ix)) ≤ 32) where
  pub base_number : (i : ℕ) → base_of s ix (lookups s ix) i ≡ number_of (names_in (manifest_of s ix)) (base (entry_at s ix i))
  unfolding base_of
  base_number i = lookups_number s ix (base_at s ix i) few ∙ ap (number_of (names_in (manifest_of s ix))) (sym (base_is s ix i))

  pub owned_is : (i : ℕ) → owned_of s ix (lookups s ix) i ≡ told_owned (owns_of (manifest_of s ix) (entry_at s ix i))
  unfolding owned_of told_owned owns_of entry_at entry_by at is_absent pick
  owned_is i = go (eqb (col_of ix i 3) 0) (eqb (col_of ix i 1) 0)
    where
      go : (b d : Bool) → pick b (pick d Nobody (Whole (base_of s ix (lookups s ix) i))) Split
          ≡ told_owned (pick (not (is_absent (pick b absent (one (items_from s ix i))))) (parts (flat (part (manifest_of s ix)) (its_items (entry_at s ix i))))
          (pick (is_absent {A = Named} (pick d absent (one (text_cell s (col_of ix i 2), tt)))) nothing (whole_file (number_of (names_in (manifest_of s ix)) (base (entry_at s ix i))))))
      go true true = refl
      go true false = ap Whole (base_number i)
      go false d = refl

  -- the machine whose name stands at p, if one does
  named_at : (p : ℕ) → pick (eqb p 0) Undeclared (Of (number_at s (lookups s ix) p)) ≡ part_named (manifest_of s ix) (text_cell s p)
  unfolding at pick part_named whose_at
  named_at p = go (eqb p 0) refl
    where
      go : (b : Bool) → eqb p 0 ≡ b → pick b Undeclared (Of (number_at s (lookups s ix) p)) ≡ part_named (manifest_of s ix) (pick b absent (one (text_at s p)))
      go true e = refl
      go false e = ap Of (lookups_number s ix p few ∙ ap (λ (b : Bool). number_of (names_in (manifest_of s ix)) (pick b host (called (text_at s p)))) e)

  pub part_is : refusal_5_or_later (one (manifest_of s ix)) ≡ 0 → {i : ℕ} → i < entries_in ix → (z : ℕ)
      → part_of s ix (lookups s ix) i z ≡ told_part z (owns_of (manifest_of s ix) (entry_at s ix i))
  unfolding part_of
  part_is accepted {i} h z =
      named_at (name_for s ix i z)
      ∙ (ap (part_named (manifest_of s ix)) (sym (name_is s ix i z))
      ∙ sym (part_owned (manifest_of s ix) z (entry_at s ix i) (inside (all_at (entries_sound (manifest_of s ix) accepted) (entry_at_lem s ix h))).1.1.0))
