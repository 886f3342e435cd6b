-- What the tables tell without machines' numbers: whether an entry declares a machine, for which ids, and whether it ties or pins its file. It is the meaning's,
-- however many names there are. Assumes nothing.
use Rattle.std.specs.Prelude.{◌≡◌, Bool, not, ℕ, ◌<◌, eqb, ltb, ℤ, pos, negsuc}
use Rattle.std.proofs.Math.Path.{refl, ap, subst}
use Rattle.std.proofs.Common.{sym, ◌∙◌, true≢false, eqb-true}
use Rattle.std.proofs.Math.Bool.{true, false}
use mathlib.Core.List.{List, [], ◌∷◌}
use Rattle.text.specs.Reading.{Text, pick}
use Rattle.numbers.specs.declared.Machine.{Machine}
use Rattle.manifest.specs.declared.Cited.TheVariants.{Private, Domain}
use Rattle.manifest.specs.declared.Relation.{Relation}
use Rattle.manifest.specs.declared.Link.{Link}
use Rattle.manifest.specs.declared.Link.TheVariants.{Unrelated}
use Rattle.manifest.specs.View.{Cell, absent, one}
use Rattle.manifest.specs.Rows.{Manifest, Entry, Clocks, SyncTo, Named, sync_to, sync_file, offset, onto, is_absent, the, flat, entries, its_items}
use Rattle.manifest.specs.Rules.{same_id, refusal_5_or_later, base, clock_at, source, reference, find, named_entry}
use Rattle.manifest.specs.Meaning.{Owns, nothing, whole_file, parts, names_in, number_of, part, owns_of, cited, offset_of, linked, relation}
use Rattle.manifest.specs.Statements.{At, here, further, All, all_none, all_one, Meets, stands}
use Rattle.manifest.proofs.laws.Accepted.{entries_sound}
use Rattle.outline.specs.Outline.{domain_at}
use Rattle.index.specs.Index.{text_at, col_of, entries_in, at, text_cell, sync_by, clocks_by, entry_by, items_from, entry_at, manifest_of}
use Rattle.index.specs.Cited.{entry_of}
use Rattle.finds.specs.Finds.{name_for, lookups}
use Rattle.index.proofs.Theorems.{find_is}
use Rattle.finds.specs.Theorems.{name_is}
use Rattle.named.specs.Named.{number_at}
use Rattle.meant.specs.declared.Owned.TheVariants.{Nobody, Whole, Split}
use Rattle.meant.specs.declared.Part.{Part}
use Rattle.meant.specs.declared.Part.TheVariants.{Undeclared, Of}
use Rattle.meant.specs.Meant.{base_of, owned_of, part_of, cited_name, cited_at, related_to, link_of}
use Rattle.meant.specs.Told.{told_owned, part_with, told_part}
use Rattle.meant.proofs.laws.Listings.{entry_at_lem}
use Rattle.meant.proofs.laws.Parts.{part_named}
use Rattle.meant.proofs.laws.Owners.{part_owned}
use Rattle.meant.proofs.laws.Links.{link_cites}
use Rattle.merged.specs.Facts.{tie_from, tie_by}
use Rattle.joins.specs.Own.{id_in, machine_in, own_parts, own_owns}

-- ---- the machine of an id

-- whether there is one
unfoldable pub declares : Part → Bool
declares Undeclared = false
declares (Of m) = true

undeclared_so : (p : Part) → declares p ≡ false → p ≡ Undeclared
unfolding declares
undeclared_so Undeclared e = refl
undeclared_so (Of m) e = absurd (true≢false e)

declared_so : (p : Part) → declares p ≡ true → p ≡ Of (machine_in p)
unfolding declares machine_in
declared_so Undeclared e = absurd (true≢false (sym e))
declared_so (Of m) e = refl

-- equal ids are one id
id_is : (z : ℕ) (y : ℤ) → same_id (pos z) y ≡ true → id_in y ≡ z
unfolding same_id id_in
id_is z (pos n) e = sym (eqb-true z n e)
id_is z (negsuc n) e = absurd (true≢false (sym e))

module _ (s : Text) (ix : List ℕ) (i z : ℕ) where
  abbrev its : Part
  its = part_of s ix (lookups s ix) i z

  own_with : (l : List (ℤ × Machine)) → declares its ≡ declares (part_with z l) → its ≡ part_with z (own_parts s ix i l)
  unfolding own_parts part_with pick declares
  own_with [] e = undeclared_so its e
  own_with (p ∷ l) e = go (same_id (pos z) p.0) refl e (λ h. own_with l h)
    where
      go : (b : Bool) → same_id (pos z) p.0 ≡ b → declares its ≡ declares (pick b (Of p.1) (part_with z l))
          → (declares its ≡ declares (part_with z l) → its ≡ part_with z (own_parts s ix i l))
          → its ≡ pick b (Of (machine_in (part_of s ix (lookups s ix) i (id_in p.0)))) (part_with z (own_parts s ix i l))
      go true q h rest = declared_so its h ∙ ap (λ (n : ℕ). Of (machine_in (part_of s ix (lookups s ix) i n))) (sym (id_is z p.0 q))
      go false q h rest = rest h

  own_part : (o : Owns) → declares its ≡ declares (told_part z o) → its ≡ told_part z (own_owns s ix i o)
  unfolding own_owns told_part declares
  own_part nothing e = undeclared_so its e
  own_part (whole_file m) e = undeclared_so its e
  own_part (parts l) e = own_with l e

all_at : {A : Type 0} {P : A → Type 0} {l : List A} {i : ℕ} {a : A} → All P l → At l i a → P a
all_at (all_one p r) here = p
all_at (all_one p r) (further h) = all_at r h
all_at all_none h = elim h [ ]

inside : {A : Type 0} {P : A → Type 0} {r : Bool} {a : A} → Meets P r (one a) → P a
inside (stands p) = p

module _ (s : Text) (ix : List ℕ) where
  -- the machine of a name that stands at p, if one does
  named_shape : (p : ℕ) → declares (pick (eqb p 0) Undeclared (Of (number_at s (lookups s ix) p))) ≡ declares (part_named (manifest_of s ix) (text_cell s p))
  unfolding at pick part_named declares
  named_shape p = go (eqb p 0)
    where
      go : (b : Bool) → declares (pick b Undeclared (Of (number_at s (lookups s ix) p))) ≡ declares (part_named (manifest_of s ix) (pick b absent (one (text_at s p))))
      go true = refl
      go false = refl

  pub own_part_told : refusal_5_or_later (one (manifest_of s ix)) ≡ 0 → {i : ℕ} → i < entries_in ix → (z : ℕ)
      → part_of s ix (lookups s ix) i z ≡ told_part z (own_owns s ix i (owns_of (manifest_of s ix) (entry_at s ix i)))
  unfolding part_of
  own_part_told accepted {i} h z =
      own_part s ix i z (owns_of (manifest_of s ix) (entry_at s ix i))
      (named_shape (name_for s ix i z) ∙ (ap (λ (c : Cell Text). declares (part_named (manifest_of s ix) c)) (sym (name_is s ix i z))
      ∙ ap declares (sym (part_owned (manifest_of s ix) z (entry_at s ix i) (inside (all_at (entries_sound (manifest_of s ix) accepted) (entry_at_lem s ix h))).1.1.0))))

  -- ---- the machine of a file

  pub own_owned_told : (i : ℕ) → owned_of s ix (lookups s ix) i ≡ told_owned (own_owns s ix i (owns_of (manifest_of s ix) (entry_at s ix i)))
  unfolding owned_of told_owned own_owns owns_of entry_at entry_by at is_absent pick
  own_owned_told i = go (eqb (col_of ix i 3) 0) (eqb (col_of ix i 1) 0)
    where
      go : (b d : Bool) → pick b (pick d Nobody (Whole (base_of s ix (lookups s ix) i))) Split
          ≡ told_owned (own_owns s ix i (pick (not (is_absent (pick b absent (one (items_from s ix i))))) (parts (flat (part (manifest_of s ix)) (its_items (entry_at s ix i))))
          (pick (is_absent {A = Named} (pick d absent (one (text_cell s (col_of ix i 2), tt)))) nothing (whole_file (number_of (names_in (manifest_of s ix)) (base (entry_at s ix i)))))))
      go true true = refl
      go true false = refl
      go false d = refl

-- ---- a file's tie

-- two links tie alike
record Ties (x y : Link) : Type 0 where
  tie : tie_by x ≡ tie_by y

none_ties : Ties Unrelated Unrelated
none_ties = record { tie = refl }

module _ {A : Type 0} (p : ℕ) (a : A) where
  tied_at : (f : A → Cell Relation) {x : Link} → Ties x (linked (f a)) → Ties (pick (eqb p 0) Unrelated x) (linked (onto (at p (one a)) f))
  unfolding at onto linked pick
  tied_at f {x} = go (eqb p 0)
    where
      go : (b : Bool) → Ties x (linked (f a)) → Ties (pick b Unrelated x) (linked (onto (pick b absent (one a)) f))
      go true h = none_ties
      go false h = h

  tied_by : {B : Type 0} (g : A → Cell B) (f : B → Cell Relation) {x : Link} → Ties x (linked (onto (g a) f)) → Ties (pick (eqb p 0) Unrelated x) (linked (onto (onto (at p (one a)) g) f))
  unfolding at onto linked pick
  tied_by g f {x} = go (eqb p 0)
    where
      go : (b : Bool) → Ties x (linked (onto (g a) f)) → Ties (pick b Unrelated x) (linked (onto (onto (pick b absent (one a)) g) f))
      go true h = none_ties
      go false h = h

tied_if : {A : Type 0} (b : Bool) (a : A) (f : A → Cell Relation) {x : Link} → Ties x (linked (f a)) → Ties (pick b x Unrelated) (linked (onto (pick b (one a) absent) f))
unfolding onto linked pick
tied_if true a f h = h
tied_if false a f h = none_ties

module _ (m : Manifest) (i : ℕ) (e : Entry) where
  abbrev over_entry : Clocks → SyncTo → ℕ × Entry → Cell Relation
  over_entry c s p = one (record { from = cited (names_in m) (source i e c); to = cited (names_in m) (reference p s); offset = offset_of (offset c) })

  abbrev over_sync : Clocks → SyncTo → Cell Relation
  over_sync c s = onto (named_entry m (sync_file s)) (over_entry c s)

  abbrev over_clocks : Clocks → Cell Relation
  over_clocks c = onto (sync_to c) (over_sync c)

module _ (s : Text) (ix : List ℕ) (i : ℕ) where
  abbrev its_file : ℕ
  its_file = entry_of (manifest_of s ix) (text_at s (col_of ix i 8))

  cited_tie : (clock machine : ℕ) → tie_from (cited_at s ix (lookups s ix) i clock machine) ≡ tie_from (cited (names_in (manifest_of s ix)) (clock_at i (entry_at s ix i) (text_cell s clock) (text_cell s machine)))
  unfolding cited_at cited clock_at at pick tie_from
  cited_tie clock machine = go (eqb clock 0)
    where
      go : (b : Bool) → tie_from (pick b (Private i) (Domain (domain_at s clock) (number_at s (lookups s ix) (cited_name s ix i machine))))
          ≡ tie_from (cited (names_in (manifest_of s ix)) (clock_at i (entry_at s ix i) (pick b absent (one (text_at s clock))) (text_cell s machine)))
      go true = refl
      go false = refl

  own_ties : Ties (link_of s ix (lookups s ix) i) (linked (relation (manifest_of s ix) i (entry_at s ix i)))
  unfolding entry_at entry_by clocks_by sync_by linked related_to tie_by
  own_ties =
      subst (λ (l : Link). Ties l (linked (relation (manifest_of s ix) i (entry_at s ix i)))) (sym (link_cites s ix i))
      (tied_at (col_of ix i 4) (clocks_by s (col_of ix i)) (over_clocks m i e)
      (tied_at (col_of ix i 7) (sync_by s (col_of ix i)) (over_sync m i e c)
      (tied_by (col_of ix i 8) (text_at s (col_of ix i 8)) (λ t. find t 0 (entries m)) (over_entry m i e c u)
      (subst (λ (x : Cell (ℕ × Entry)). Ties (pick (ltb its_file 32) (related_to s ix (lookups s ix) i its_file) Unrelated) (linked (onto x (over_entry m i e c u)))) (sym (find_is s ix (text_at s (col_of ix i 8))))
      (tied_if (ltb its_file 32) (its_file, entry_at s ix its_file) (over_entry m i e c u) (record { tie = cited_tie (col_of ix i 5) (col_of ix i 6) }))))))
    where
      m : Manifest
      m = manifest_of s ix

      e : Entry
      e = entry_at s ix i

      c : Clocks
      c = clocks_by s (col_of ix i)

      u : SyncTo
      u = sync_by s (col_of ix i)

  pub own_tie : tie_by (link_of s ix (lookups s ix) i) ≡ tie_by (linked (relation (manifest_of s ix) i (entry_at s ix i)))
  own_tie = own_ties.tie
