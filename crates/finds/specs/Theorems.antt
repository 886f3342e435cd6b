-- What is found in an index is what the rules find in the manifest that it stands for. Assumes nothing.
use Rattle.std.specs.Prelude.{◌≡◌, refl, List, ℕ, ◌<◌, ltb, pos, get_or}
use Rattle.text.specs.Reading.{Text, pick}
use Rattle.manifest.specs.View.{absent, one}
use Rattle.manifest.specs.Rows.{its_items}
use Rattle.manifest.specs.Rules.{named_entry, name_of_id, base}
use Rattle.index.specs.Index.{col_of, text_cell, entry_at, manifest_of, whose_at}
use Rattle.index.specs.Cited.{cites_of}
use Rattle.finds.specs.Finds.{name_for, base_at}
use Rattle.finds.specs.laws.Cites.{cites_right}
use Rattle.finds.specs.laws.Ids.{name_right}
use Rattle.finds.specs.laws.Bases.{base_right}

-- the entry that the `file` of the `sync_to` of entry i names, by the table
pub cites_is : (s : Text) (ix : List ℕ) (i : ℕ) → i < 32
    → named_entry (manifest_of s ix) (text_cell s (col_of ix i 8))
    ≡ pick (ltb (get_or (cites_of s ix) i 0) 32) (one (get_or (cites_of s ix) i 0, entry_at s ix (get_or (cites_of s ix) i 0))) absent
cites_is s ix i h = cites_right s ix i refl h

-- the name for an id
pub name_is : (s : Text) (ix : List ℕ) (i z : ℕ) → name_of_id (pos z) (its_items (entry_at s ix i)) ≡ text_cell s (name_for s ix i z)
name_is s ix i z = name_right s ix i z

-- the base machine
pub base_is : (s : Text) (ix : List ℕ) (i : ℕ) → base (entry_at s ix i) ≡ whose_at s (base_at s ix i)
base_is s ix i = base_right s ix i
