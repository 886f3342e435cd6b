-- What is found in an index: the item of an id, the name of a file's base machine; and a table of what is asked for often.
-- Assumes nothing.
use Rattle.std.specs.Prelude.{List, [], ◌∷◌, ◌++◌, map, ℕ, ◌+◌, eqb, ltb, pos, get_or}
use Rattle.text.specs.Reading.{Text, pick}
use Rattle.manifest.specs.Rows.{id, first_or, holds, its_items}
use Rattle.manifest.specs.Rules.{same_id}
use Rattle.index.specs.Index.{col_of, item_of, entries_in, listed, entry_at}
use Rattle.index.specs.Cited.{cites_of, trace_cited}
use Rattle.prints.specs.Prints.{path_prints}
use Rattle.named.specs.Named.{name_table, print_table}

-- a cited entry's number, from 1 on; 0 for none
unfoldable pub from_one : ℕ → ℕ
from_one e = pick (ltb e 32) (e + 1) 0

-- of 32 numbers those of the entries that there are, then zeros
unfoldable pub of_entries : List ℕ → List ℕ → List ℕ
of_entries ix l = listed (λ i. pick (ltb i (entries_in ix)) (get_or l i 0) 0) 0 32

-- what is looked up often, in one table: where the names of machines 1, 2, .. stand, their prints, which entry each entry cites, the prints of the entries' paths, and which entry
-- `trace_time` cites
unfoldable pub lookups : Text → List ℕ → List ℕ
lookups s ix =
    name_table s ix
    ++ (print_table s ix ++ (map from_one (cites_of s ix) ++ (of_entries ix (path_prints s ix) ++ (from_one (trace_cited s ix) ∷ []))))

-- which item of entry i has an id: the first one that has it; 32 if none has
unfoldable pub item_with : Text → List ℕ → ℕ → ℕ → ℕ
item_with s ix i z = first_or 32 (λ v. holds (same_id (pos z)) (id v)) (its_items (entry_at s ix i)) 0

-- where entry i has the name for an id; 0 if it has none
unfoldable pub name_for : Text → List ℕ → ℕ → ℕ → ℕ
name_for s ix i z = item_of ix i (item_with s ix i z) 1

-- "A file's base machine: its `machine`; or its name for id 0; or the host": where the name stands; 0 for the host
unfoldable pub base_at : Text → List ℕ → ℕ → ℕ
base_at s ix i =
    pick (eqb (col_of ix i 1) 0) (name_for s ix i 0)
    (pick (eqb (col_of ix i 2) 0) (name_for s ix i 0) (col_of ix i 2))
