-- The answers over the tables of a manifest are the parts of its meaning: over those of any manifest, or of an accepted one, with at most 32 named
-- machines where a machine's number is told. Assumes nothing.
use Rattle.std.specs.Prelude.{◌≡◌, List, get_or}
use Rattle.std.proofs.Math.Path.{sym}
use Rattle.std.proofs.Common.{ap, ◌∙◌}
use Prim.Native.Nat.{ℕ, ◌≤◌, ◌<◌, min}
use native.Mathlib.Omega.{arith}
use Rattle.std.proofs.Math.ListN.{length}
use Rattle.text.specs.Reading.{Text}
use Rattle.grammar.specs.Tree.{same}
use Rattle.manifest.specs.View.{one}
use Rattle.manifest.specs.Rows.{trace_time, first_or, entries}
use Rattle.manifest.specs.Rules.{base, refusal_5_or_later}
use Rattle.manifest.specs.Meaning.{Listed, names_in, number_of, owns_of, linked, relation, listing, listings, timeline, meant}
use Rattle.index.specs.Index.{entries_in, entry_at, manifest_of}
use Rattle.index.specs.Cited.{entry_of}
use Rattle.finds.specs.Finds.{lookups}
use Rattle.finds.specs.laws.Lookups.{lookups_count}
use Rattle.meant.specs.Meant.{base_of, owned_of, part_of, link_of, timeline_of}
use Rattle.meant.specs.Told.{told_owned, told_part, Tells}
use Rattle.meant.proofs.laws.Listings.{listing_is, listings_are, entry_first}
use Rattle.meant.proofs.laws.Owners.{base_number, owned_is, part_is}
use Rattle.meant.proofs.laws.Links.{link_is}
use Rattle.meant.proofs.laws.Traced.{timeline_is}

module _ (s : Text) (ix : List ℕ) where
  -- each entry is listed once, in its place
  pub listing_at : {i : ℕ} → i < entries_in ix → (d : Listed)
      → get_or (listings (manifest_of s ix) 0 (entries (manifest_of s ix))) i d ≡ listing (manifest_of s ix) i (entry_at s ix i)
  listing_at h d = listing_is s ix h d

  pub listings_length : length (listings (manifest_of s ix) 0 (entries (manifest_of s ix))) ≡ entries_in ix
  listings_length = listings_are s ix

  -- the entry of a path is the first listing with it
  pub entry_told : (t : Text) → refusal_5_or_later (one (manifest_of s ix)) ≡ 0
      → entry_of (manifest_of s ix) t ≡ first_or 32 (λ (l : Listed). same t l.path) (listings (manifest_of s ix) 0 (entries (manifest_of s ix))) 0
  entry_told t accepted = entry_first (manifest_of s ix) t accepted

  module _ (few : length (names_in (manifest_of s ix)) ≤ 32) where
    -- the base machine, and the machine that an entry declares for its file
    pub base_told : (i : ℕ) → base_of s ix (lookups s ix) i ≡ number_of (names_in (manifest_of s ix)) (base (entry_at s ix i))
    base_told i = base_number s ix few i

    pub owned_told : (i : ℕ) → owned_of s ix (lookups s ix) i ≡ told_owned (owns_of (manifest_of s ix) (entry_at s ix i))
    owned_told i = owned_is s ix few i

    module _ (accepted : refusal_5_or_later (one (manifest_of s ix)) ≡ 0) where
      module _ {i : ℕ} (below : i < entries_in ix) where
        -- the machine that it names for an id; none in a file that is not split
        pub part_told : (z : ℕ) → part_of s ix (lookups s ix) i z ≡ told_part z (owns_of (manifest_of s ix) (entry_at s ix i))
        part_told z = part_is s ix few accepted below z

        -- how it relates its file's clock
        pub link_told : link_of s ix (lookups s ix) i ≡ linked (relation (manifest_of s ix) i (entry_at s ix i))
        link_told = link_is s ix few accepted below

      -- trace time
      pub timeline_told : timeline_of s ix (lookups s ix) ≡ timeline (manifest_of s ix) (trace_time (manifest_of s ix))
      timeline_told = timeline_is s ix few accepted

      -- all of it: over an accepted manifest's tables the answers are the parts of its meaning
      pub told : Tells s ix (meant (one (manifest_of s ix)))
      unfolding meant
      told = record {
        entries_told = sym listings_length;
        names_told = let e : min 32 (length (names_in (manifest_of s ix))) ≡ length (names_in (manifest_of s ix)) = omega arith in lookups_count s ix ∙ e;
        entry_told = λ t. entry_told t accepted;
        base_told = λ {i} h d. base_told i ∙ sym (ap (λ (l : Listed). l.base) (listing_at h d));
        owned_told = λ {i} h d. owned_told i ∙ sym (ap (λ (l : Listed). told_owned l.owns) (listing_at h d));
        part_told = λ {i} h d z. part_told h z ∙ sym (ap (λ (l : Listed). told_part z l.owns) (listing_at h d));
        link_told = λ {i} h d. link_told h ∙ sym (ap (λ (l : Listed). l.link) (listing_at h d));
        timeline_told = timeline_told;
      }
