-- What the table of names is good for: it numbers the machines of the manifest that the index stands for. Assumes nothing.
use Rattle.std.specs.Prelude.{◌≡◌, List, ◌++◌, map, ℕ, ◌≤◌, min, length}
use Rattle.text.specs.Reading.{Text}
use Rattle.manifest.specs.Meaning.{names_in, number_of}
use Rattle.index.specs.Index.{text_at, manifest_of, whose_at}
use Rattle.named.specs.Named.{name_places, name_table, print_table, count_in, number_at}
use Rattle.named.proofs.laws.Meant.{names_texts, table_long, table_count, table_number}

-- the texts at the positions are the names of machines 1, 2, ..
pub names_are : (s : Text) (ix : List ℕ) → map (text_at s) (name_places s ix) ≡ names_in (manifest_of s ix)
names_are s ix = names_texts s ix

-- the table has room for 32 of them
pub table_length : (s : Text) (ix : List ℕ) → length (name_table s ix) ≡ 32
table_length s ix = table_long s ix

-- it holds as many as there are, or 32, whatever stands behind it
pub count_is : (s : Text) (ix rest : List ℕ) → count_in (name_table s ix ++ rest) ≡ min 32 (length (names_in (manifest_of s ix)))
count_is s ix rest = table_count s ix rest

-- and if it holds them all, then by it and its prints each machine has its number; the host has 0
pub number_is : (s : Text) (ix rest : List ℕ) (p : ℕ) → length (names_in (manifest_of s ix)) ≤ 32
    → number_at s (name_table s ix ++ (print_table s ix ++ rest)) p ≡ number_of (names_in (manifest_of s ix)) (whose_at s p)
number_is s ix rest p h = table_number s ix rest p h
