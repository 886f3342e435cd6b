-- What the answers have to be for a meaning. Assumes nothing.
use Rattle.std.specs.Prelude.{◌≡◌, List, [], ◌∷◌, ℕ, ◌<◌, ℤ, pos, length, get_or}
use Rattle.text.specs.Reading.{Text, pick}
use Rattle.grammar.specs.Tree.{same}
use Rattle.numbers.specs.declared.Machine.{Machine}
use Rattle.manifest.specs.Rows.{first_or}
use Rattle.manifest.specs.Rules.{same_id}
use Rattle.manifest.specs.Meaning.{Owns, nothing, whole_file, parts, Listed, Meaning}
use Rattle.index.specs.Index.{entries_in, manifest_of}
use Rattle.index.specs.Cited.{entry_of}
use Rattle.finds.specs.Finds.{lookups}
use Rattle.named.specs.Named.{count_in}
use Rattle.meant.specs.declared.Owned.{Owned}
use Rattle.meant.specs.declared.Owned.TheVariants.{Nobody, Whole, Split}
use Rattle.meant.specs.declared.Part.{Part}
use Rattle.meant.specs.declared.Part.TheVariants.{Undeclared, Of}
use Rattle.meant.specs.Meant.{base_of, owned_of, part_of, link_of, timeline_of}

-- the machine that an entry declares for its file
unfoldable pub told_owned : Owns → Owned
told_owned nothing = Nobody
told_owned (whole_file k) = Whole k
told_owned (parts l) = Split

-- the machine of the first pair with an id
unfoldable pub part_with : ℕ → List (ℤ × Machine) → Part
part_with z [] = Undeclared
part_with z (p ∷ l) = pick (same_id (pos z) p.0) (Of p.1) (part_with z l)

-- the machine that an entry names for an id; a file that is not split has none for any id
unfoldable pub told_part : ℕ → Owns → Part
told_part z nothing = Undeclared
told_part z (whole_file k) = Undeclared
told_part z (parts l) = part_with z l

-- `Tells s ix w`: over the index ix of a text s and its table of lookups, each answer is a part of the meaning w. (d is for no place of the list)
pub record Tells (s : Text) (ix : List ℕ) (w : Meaning) : Type 0 where
  pub entries_told : entries_in ix ≡ length w.listed
  pub names_told : count_in (lookups s ix) ≡ length w.names
  pub entry_told : (path : Text) → entry_of (manifest_of s ix) path ≡ first_or 32 (λ (l : Listed). same path l.path) w.listed 0
  pub base_told : {i : ℕ} → i < entries_in ix → (d : Listed) → base_of s ix (lookups s ix) i ≡ (get_or w.listed i d).base
  pub owned_told : {i : ℕ} → i < entries_in ix → (d : Listed) → owned_of s ix (lookups s ix) i ≡ told_owned (get_or w.listed i d).owns
  pub part_told : {i : ℕ} → i < entries_in ix → (d : Listed) (z : ℕ) → part_of s ix (lookups s ix) i z ≡ told_part z (get_or w.listed i d).owns
  pub link_told : {i : ℕ} → i < entries_in ix → (d : Listed) → link_of s ix (lookups s ix) i ≡ (get_or w.listed i d).link
  pub timeline_told : timeline_of s ix (lookups s ix) ≡ w.trace
