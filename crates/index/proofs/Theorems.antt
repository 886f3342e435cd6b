-- What the index is good for: read back it is the manifest, and the entries that it finds are those that the rules find. Assumes nothing.
use Rattle.std.specs.Prelude.{◌≡◌, refl, true, false, List, ℕ, ◌<◌, ltb, pos, length, replicate}
use Rattle.std.proofs.Common.{sym, ap, ◌∙◌}
use Rattle.text.specs.Reading.{Text, pick}
use Rattle.grammar.specs.Tree.{obj, Members}
use Rattle.values.specs.Integer.{whole}
use Rattle.values.specs.Stands.{Stands}
use Rattle.manifest.specs.Kinds.{manifest}
use Rattle.manifest.specs.View.{absent, one, row}
use Rattle.manifest.specs.Rows.{version, entries}
use Rattle.manifest.specs.Rules.{applies, refusal_10_size, find, named_entry}
use Rattle.manifest.specs.Statements.{SoundRow}
use Rattle.index.specs.Index.{index_of, too_many, text_at, entries_in, at, text_cell, entry_at, manifest_of}
use Rattle.index.specs.Cited.{entry_of}
use Rattle.index.proofs.laws.Seen.{seen_row_lem}
use Rattle.index.proofs.laws.Back.{index_long, back}
use Rattle.index.proofs.laws.Many.{few_entries, few_items, many_applies}
use Rattle.index.proofs.laws.Paths.{find_right, named_right, below}

-- an index has 2470 numbers, and an index of zeros stands for a manifest with neither `trace_time` nor `files`
pub index_length : (s : Text) (v : ℕ) → length (index_of s v) ≡ 2470
index_length s v = index_long s v

pub zeros_say_nothing : (s : Text) → manifest_of s (replicate 2470 0) ≡ (one (whole (pos 1)), (absent, (absent, tt)))
unfolding manifest_of at pick
zeros_say_nothing s = refl

-- the manifest object ms stands at v, and neither 8 nor 9 applies to it
module _ {s : Text} {v : ℕ} {ms : Members} (here : Stands s v (obj ms)) (past : v ≡ 0 → ⊥) (sound : SoundRow manifest (row manifest ms)) where
  -- if its version is 1 and the index holds all its entries and items, then the index, read back, is all that the rules see of it
  pub index_right : version (row manifest ms) ≡ one (whole (pos 1)) → too_many s v ≡ false → manifest_of s (index_of s v) ≡ row manifest ms
  index_right first few =
      back s v (few_entries s v few) (few_items s v few)
      ∙ (λ i. (sym first i, (seen_row_lem manifest here past sound i).1))

  -- and if there are too many entries or items, then 10 applies to it
  pub too_many_10 : too_many s v ≡ true → applies refusal_10_size (row manifest ms) ≡ true
  too_many_10 many = ap (applies refusal_10_size) (sym (seen_row_lem manifest here past sound)) ∙ many_applies s v many

-- ---- which entry a file names

-- the entry with a path, and its number
pub find_is : (s : Text) (ix : List ℕ) (t : Text)
    → find t 0 (entries (manifest_of s ix))
    ≡ pick (ltb (entry_of (manifest_of s ix) t) 32) (one (entry_of (manifest_of s ix) t, entry_at s ix (entry_of (manifest_of s ix) t))) absent
find_is s ix t = find_right s ix t

-- the entry that the `file` at p names; none, if p is 0
pub named_entry_is : (s : Text) (ix : List ℕ) (p : ℕ)
    → named_entry (manifest_of s ix) (text_cell s p)
    ≡ at p (pick (ltb (entry_of (manifest_of s ix) (text_at s p)) 32) (one (entry_of (manifest_of s ix) (text_at s p), entry_at s ix (entry_of (manifest_of s ix) (text_at s p)))) absent)
named_entry_is s ix p = named_right s ix p

-- an entry that is found is one that the index holds
pub found_below : (s : Text) (ix : List ℕ) (t : Text) → ltb (entry_of (manifest_of s ix) t) 32 ≡ true → entry_of (manifest_of s ix) t < entries_in ix
found_below s ix t h = below s ix t h
