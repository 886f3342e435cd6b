-- The table of what is known (crate checks, specs/Table), made from a sheet's bytes and a manifest's tables. Assumes nothing.
use Rattle.std.specs.Prelude.{Bool, ◌&&◌, List, [], ◌∷◌, ◌++◌, ℕ, ◌+◌, ◌*◌, eqb, ltb, get_or, replicate}
use Rattle.text.specs.Reading.{Text, pick}
use Rattle.manifest.specs.declared.Cited.{Cited}
use Rattle.manifest.specs.declared.Cited.TheVariants.{Private, Domain}
use Rattle.manifest.specs.declared.Link.{Link}
use Rattle.manifest.specs.declared.Link.TheVariants.{Unrelated, Related}
use Rattle.grammar.specs.Tree.{same}
use Rattle.manifest.specs.Rows.{any, first_or, holds}
use Rattle.records.specs.Readers.{head_at, source_at, snapshot_at, path_at}
use Rattle.records.specs.declared.Head.{Head}
use Rattle.records.specs.declared.Source.{Source}
use Rattle.records.specs.declared.Snapshot.{Snapshot}
use Rattle.sheet.specs.Places.{place_of}
use Rattle.sheet.specs.Sheets.{read_of}
use Rattle.sheet.specs.declared.Table.{Table}
use Rattle.sheet.specs.Sheets.{Sheet, Refused, Listed}
use Rattle.index.specs.Index.{col_of, rows, listed, text_cell, entries_in}
use Rattle.prints.specs.Prints.{print_of}
use Rattle.named.specs.Named.{count_in}
use Rattle.meant.specs.declared.Owned.{Owned}
use Rattle.meant.specs.declared.Owned.TheVariants.{Nobody, Whole, Split}
use Rattle.meant.specs.declared.Part.{Part}
use Rattle.meant.specs.declared.Part.TheVariants.{Undeclared, Of}
use Rattle.meant.specs.Meant.{base_of, owned_of, part_of, link_of}

-- ---- answers as numbers

-- a file's clocks: 0 untied, 1 tied, 2 pinned
unfoldable pub cited_code : Cited → ℕ
cited_code (Private i) = 2
cited_code (Domain d m) = 1

unfoldable pub tie_code : Link → ℕ
tie_code Unrelated = 0
tie_code (Related r) = cited_code r.from

-- what is said of a source's machine, in two numbers: 0 nothing, 1 the whole file's, 2 that named for the id, 3 undeclared; and the machine
unfoldable pub part_code : Part → List ℕ
part_code Undeclared = 3 ∷ 0 ∷ []
part_code (Of m) = 2 ∷ m.0 ∷ []

unfoldable pub owned_code : Owned → Part → List ℕ
owned_code Nobody p = 0 ∷ 0 ∷ []
owned_code (Whole m) p = 1 ∷ m.0 ∷ []
owned_code Split p = part_code p

unfoldable pub flag : Bool → ℕ
flag c = pick c 1 0

-- ---- the entry of a path, by the table of lookups: theorem `entry_is` says it of the manifest's

-- entry i has the path: its print in the table is the path's, and its text is
unfoldable pub is_listed : Text → List ℕ → List ℕ → Text → ℕ → Bool
is_listed s ix lookups path i = eqb (get_or lookups (96 + i) 0) (print_of path) && holds (same path) (text_cell s (col_of ix i 0))

-- the first entry that has it; 32 if none has
unfoldable pub entry_with : Text → List ℕ → List ℕ → Text → ℕ
entry_with s ix lookups path = first_or 32 (is_listed s ix lookups path) (listed (λ i. i) 0 (entries_in ix)) 0

-- ---- rows

-- row i of n, and zeros past the last: k numbers each
unfoldable pub row_in : ℕ → ℕ → (ℕ → List ℕ) → ℕ → List ℕ
row_in n k row i = pick (ltb i n) (row i) (replicate k 0)

module _ (s : Text) (ix lookups : List ℕ) (b : List ℕ) (t : Table) where
  -- source j and snapshot i of the sheet
  abbrev pub source_of : ℕ → Source
  source_of j = source_at b (t.sources.at + 40 * j)

  abbrev pub snapshot_of : ℕ → Snapshot
  snapshot_of i = snapshot_at b (t.snapshots.at + 142 * i)

  -- the head of file f, and the entry that lists its path
  abbrev pub head_of : ℕ → Head
  head_of f = head_at b (place_of b 0 f)

  unfoldable pub entry_for : ℕ → ℕ
  entry_for f = entry_with s ix lookups (path_at b (place_of b 0 f))

  -- one of the snapshots is by a source of file f
  unfoldable pub recorded_in : ℕ → Bool
  recorded_in f = any (λ (n : Snapshot). eqb (source_of n.source).file.0 f) (listed snapshot_of 0 t.snapshots.count)

  -- of a file: its entry, tie, base machine, container flag, claim, and whether it has a snapshot
  unfoldable pub file_row : ℕ → List ℕ
  file_row f =
      entry_for f
      ∷ tie_code (link_of s ix lookups (entry_for f))
      ∷ (base_of s ix lookups (entry_for f)).0
      ∷ flag (head_of f).container
      ∷ (head_of f).claim
      ∷ flag (recorded_in f)
      ∷ []

  -- of a source: its file, id, and what is said of its machine
  unfoldable pub source_row : ℕ → List ℕ
  source_row j =
      (source_of j).file.0
      ∷ (source_of j).id
      ∷ owned_code (owned_of s ix lookups (entry_for (source_of j).file.0)) (part_of s ix lookups (entry_for (source_of j).file.0) (source_of j).id)

  -- the numbers of files, sources, entries and names; then 32 files, then 32 sources
  unfoldable pub gathered_in : List ℕ
  gathered_in =
      (t.files ∷ t.sources.count ∷ entries_in ix ∷ count_in lookups ∷ [])
      ++ (rows (row_in t.files 6 file_row) 32 ++ rows (row_in t.sources.count 4 source_row) 32)

-- ---- of a refused sheet nothing is known
unfoldable pub gathered_by : Text → List ℕ → List ℕ → List ℕ → Sheet → List ℕ
gathered_by s ix lookups b (Refused k) = replicate 324 0
gathered_by s ix lookups b (Listed t) = gathered_in s ix lookups b t

unfoldable pub gathered : Text → List ℕ → List ℕ → List ℕ → List ℕ
gathered s ix lookups b = gathered_by s ix lookups b (read_of b)
