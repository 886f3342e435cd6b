-- What an accepted sheet's table keeps to, and what a half made table already holds. Assumes nothing.
use Rattle.std.specs.Prelude.{◌≡◌, List, ℕ, ◌+◌, ◌*◌, ◌≤◌, ◌<◌, get_or}
use Rattle.std.proofs.Common.{ap, arith}
use Rattle.text.specs.Reading.{Text}
use Rattle.records.specs.Readers.{source_at}
use Rattle.records.specs.declared.Source.{Source}
use Rattle.sheet.specs.Lists.{sources_of}
use Rattle.sheet.specs.Accepted.{Accepted, source_of, source_good}
use Rattle.sheet.specs.declared.Table.{Table}
use Rattle.merged.specs.Facts.{no_source}
use Rattle.gather.specs.Gathered.{flag, entry_for, recorded_in}

-- few records, at low positions
pub record Near (t : Table) : Type 0 where
  pub few_files : t.files ≤ 32
  pub few_sources : t.sources.count ≤ 32
  pub few_snapshots : t.snapshots.count ≤ 256
  pub sources_near : t.sources.at ≤ 524288
  pub snapshots_near : t.snapshots.at ≤ 524288

-- each source is of a file of the sheet
pub record Cites (b : List ℕ) (t : Table) : Type 0 where
  pub below : (j : ℕ) → j < t.sources.count → (source_at b (t.sources.at + 40 * j)).file.0 < t.files

-- the entry of each file is in the table
pub record Known (s : Text) (ix names b : List ℕ) (t : Table) (out : List ℕ) : Type 0 where
  pub known : (f : ℕ) → f < t.files → get_or out (4 + 6 * f) 0 ≡ entry_for s ix names b t f

-- for each file, whether it has a snapshot
pub record Recorded (b : List ℕ) (t : Table) (out : List ℕ) : Type 0 where
  pub recorded : (s : Text) (ix names : List ℕ) (f : ℕ) → f < 32 → get_or out f 0 ≡ flag (recorded_in s ix names b t f)

-- the table of a sheet that is listed
module _ {b : List ℕ} {t : Table} (a : Accepted b t) where
  pub near : Near t
  near =
      record {
        few_files = a.few_files;
        few_sources = a.few_sources;
        few_snapshots = a.few_snapshots;
        sources_near = omega (arith, a.sources_end, a.snapshots_end, a.events_end, a.short);
        snapshots_near = omega (arith, a.snapshots_end, a.events_end, a.short);
      }

  pub source_below : (j : ℕ) → j < t.sources.count → (source_at b (t.sources.at + 40 * j)).file.0 < t.files
  source_below j h =
      let e : (source_at b (t.sources.at + 40 * j)).file.0 ≡ (get_or (sources_of a.rs) j no_source).file.0 = ap (λ (x : Source). x.file.0) (source_of a j no_source h) in
      omega (arith, (source_good a j no_source h).listed, a.files_are)

  pub cites : Cites b t
  cites = record { below = source_below }
