-- What a table holds at each place, and what the sheet's records are there. Assumes nothing.
use Rattle.std.specs.Prelude.{◌≡◌, Bool, eqb, length}
use Rattle.std.proofs.Common.{sym, ◌∙◌, arith}
use Rattle.std.proofs.Math.Path.{ap}
use mathlib.Core.List.{List, [], ◌∷◌, ◌++◌, map}
use Prim.Native.Nat.{ℕ, ◌+◌, ◌*◌, ◌≤◌, ◌<◌}
use Rattle.std.proofs.Math.ListN.{get_or, get_or-append, get_or-map}
use Rattle.std.proofs.Math.Seq.{get_or-append-add}
use Rattle.text.specs.Reading.{Text}
use Rattle.manifest.specs.Rows.{any}
use Rattle.records.specs.Layout.{ending, bytes_at}
use Rattle.records.specs.Readers.{head_at, source_at, snapshot_at, path_at}
use Rattle.records.specs.declared.Head.{Head}
use Rattle.records.specs.declared.Source.{Source}
use Rattle.records.specs.declared.Snapshot.{Snapshot}
use Rattle.sheet.specs.Places.{place_of}
use Rattle.sheet.specs.Lists.{files_of, sources_of, snapshots_of}
use Rattle.sheet.specs.Accepted.{Accepted, file_of, head_of, source_of, snapshot_of_lem, snapshot_good}
use Rattle.sheet.specs.declared.Table.{Table}
use Rattle.index.specs.Index.{rows, listed, entries_in}
use Rattle.index.proofs.laws.Rows.{rows_length, rows_at}
use Rattle.named.specs.Named.{count_in}
use Rattle.merged.specs.Facts.{Filed, filed, no_file, no_source}
use Rattle.checks.specs.Table.{file_number, source_number}
use Rattle.gather.specs.Gathered.{row_in, recorded_in, file_row, source_row, gathered_in}
use Rattle.gather.specs.laws.Rows.{file_length, source_length, row_here}
use Rattle.gather.specs.laws.Lists.{listed_any}

-- ---- the numbers of the table
module _ (s : Text) (ix names b : List ℕ) (t : Table) where
  abbrev files_all : List ℕ
  files_all = rows (row_in t.files 6 (file_row s ix names b t)) 32

  abbrev sources_all : List ℕ
  sources_all = rows (row_in t.sources.count 4 (source_row s ix names b t)) 32

  abbrev counts : List ℕ
  counts = t.files ∷ t.sources.count ∷ entries_in ix ∷ count_in names ∷ []

  files_size : length files_all ≡ 192
  files_size = rows_length 6 (row_in t.files 6 (file_row s ix names b t)) (file_length s ix names b t) 32

  pub file_number_lem : (f j : ℕ) → f < t.files → t.files ≤ 32 → j < 6 → file_number (gathered_in s ix names b t) f j ≡ get_or (file_row s ix names b t f) j 0
  unfolding file_number gathered_in
  file_number_lem f j h l m =
      get_or-append-add counts (files_all ++ sources_all) (6 * f + j) 0
      ∙ get_or-append files_all sources_all 0 (6 * f + j) (omega (arith, files_size))
      ∙ rows_at 6 (row_in t.files 6 (file_row s ix names b t)) (file_length s ix names b t) 32 f j (omega arith) m
      ∙ ap (λ (r : List ℕ). get_or r j 0) (row_here t.files 6 (file_row s ix names b t) f h)

  pub source_number_lem : (j i : ℕ) → j < t.sources.count → t.sources.count ≤ 32 → i < 4 → source_number (gathered_in s ix names b t) j i ≡ get_or (source_row s ix names b t j) i 0
  unfolding source_number gathered_in
  source_number_lem j i h l m =
      let z : 196 + (4 * j + i) ≡ 4 + (length files_all + (4 * j + i)) = omega (arith, files_size) in
      ap (λ (n : ℕ). get_or (counts ++ (files_all ++ sources_all)) n 0) z
      ∙ get_or-append-add counts (files_all ++ sources_all) (length files_all + (4 * j + i)) 0
      ∙ get_or-append-add files_all sources_all (4 * j + i) 0
      ∙ rows_at 4 (row_in t.sources.count 4 (source_row s ix names b t)) (source_length s ix names b t) 32 j i (omega arith) m
      ∙ ap (λ (r : List ℕ). get_or r i 0) (row_here t.sources.count 4 (source_row s ix names b t) j h)

-- ---- the records of an accepted sheet
module _ {b : List ℕ} {t : Table} (a : Accepted b t) where
  -- file f, as it is read at its place
  abbrev pub file_at : ℕ → Filed
  file_at f = record { container = (head_at b (place_of b 0 f)).container; claim = (head_at b (place_of b 0 f)).claim; path = path_at b (place_of b 0 f) }

  pub file_held : (f : ℕ) → f < t.files → get_or (map filed (files_of a.rs)) f no_file ≡ file_at f
  file_held f h =
      get_or-map filed (files_of a.rs) f ending
      ∙ ap filed (sym (file_of a f ending h))
      ∙ ap (λ (x : Head). record { container = x.container; claim = x.claim; path = bytes_at b (place_of b 0 f + 15) x.length }) (sym (head_of a f h))

  pub files_counted : t.files ≡ length (files_of a.rs)
  files_counted = ap (λ (u : Table). u.files) a.table

  pub sources_counted : t.sources.count ≡ length (sources_of a.rs)
  sources_counted = ap (λ (u : Table). u.sources.count) a.table

  snapshots_counted : t.snapshots.count ≡ length (snapshots_of a.rs)
  snapshots_counted = ap (λ (u : Table). u.snapshots.count) a.table

  -- whether a file has a snapshot
  pub recorded_held : (s : Text) (ix names : List ℕ) (f : ℕ)
      → recorded_in s ix names b t f ≡ any (λ (n : Snapshot). eqb (get_or (sources_of a.rs) n.source no_source).file.0 f) (snapshots_of a.rs)
  unfolding recorded_in
  recorded_held s ix names f =
      ap (λ (n : ℕ). any by_file (listed snapshot_of 0 n)) snapshots_counted
      ∙ listed_any by_file snapshot_of _ none (snapshots_of a.rs) 0 each
    where
      snapshot_of : ℕ → Snapshot
      snapshot_of i = snapshot_at b (t.snapshots.at + 142 * i)

      none : Snapshot
      none = snapshot_of 0

      by_file : Snapshot → Bool
      by_file n = eqb (source_at b (t.sources.at + 40 * n.source)).file.0 f

      each : (k : ℕ) → k < length (snapshots_of a.rs) → by_file (snapshot_of (0 + k)) ≡ eqb (get_or (sources_of a.rs) (get_or (snapshots_of a.rs) k none).source no_source).file.0 f
      each k h =
          let z : 0 + k ≡ k = omega arith in
          let l : k < t.snapshots.count = omega (arith, snapshots_counted) in
          let e : snapshot_of (0 + k) ≡ get_or (snapshots_of a.rs) k none = ap snapshot_of z ∙ snapshot_of_lem a k none l in
          let g : (get_or (snapshots_of a.rs) k none).source < t.sources.count = omega (arith, (snapshot_good a k none l).listed, a.sources_are) in
          ap by_file e ∙ ap (λ (x : Source). eqb x.file.0 f) (source_of a _ no_source g)
