-- What a manifest's bytes and a sheet's bytes say together. Assumes nothing.
use Rattle.std.specs.Prelude.{◌≡◌, List, ℕ, min, eqb, length}
use Rattle.text.specs.Reading.{Text, pick}
use Rattle.manifest.specs.Manifest.{refusal_of}
use Rattle.sheet.specs.Sheets.{read_of}
use Rattle.sheet.specs.declared.Table.{Table}
use Rattle.sheet.specs.Sheets.{Sheet, Refused as SheetRefused, Listed}
use Rattle.reader.specs.Reader.{table_of, lookups_of}
use Rattle.meant.specs.Meant.{timeline_of}
use Rattle.graphs.specs.Links.{Link}
use Rattle.merged.specs.Machines.{machine_count}
use Rattle.merged.specs.Refusals.{checks, first_of, is_pinned}
use Rattle.merged.specs.Timeline.{bits_of, trace_by}
use Rattle.checks.specs.Table.{facts_by}
use Rattle.checks.specs.Machines.{machine_table}
use Rattle.gather.specs.Gathered.{gathered}
use Rattle.lines.specs.Lines.{links_by}
use Rattle.placed.specs.declared.Given.{Given}
use Rattle.placed.specs.Told.{Told, Refused, Accepted}

-- where a sheet's records lie; nowhere in a refused sheet
unfoldable pub table_in : Sheet → Table
table_in (SheetRefused k) = record { files = 0; sources = record { count = 0; at = 0 }; snapshots = record { count = 0; at = 0 }; events = record { count = 0; at = 0 } }
table_in (Listed p) = p

-- what is given beside the lists, by the tables; a byte holds at most 255
unfoldable pub given_by : Text → List ℕ → List ℕ → List ℕ → Table → ℕ → Given
given_by s ix names t p links =
    record {
      links = links;
      events = p.events.count;
      machines = min 255 (machine_count (facts_by t));
      files = min 255 p.files;
      pinned = bits_of (λ f. is_pinned f.tie) (facts_by t).files;
      trace = record { 0 = trace_by (facts_by t) (timeline_of s ix names) };
    }

-- the sheet's refusal, or that of both together, or what is known
unfoldable pub verdict_by : Sheet → ℕ → Given → Told
verdict_by (SheetRefused k) both given = Refused k
verdict_by (Listed p) both given = pick (eqb both 0) (Accepted (record { sources = p.sources.count; at = p.events.at; given = given })) (Refused both)

-- the manifest's comes first
unfoldable pub verdict : ℕ → Sheet → ℕ → Given → Told
verdict manifest sheet both given = pick (eqb manifest 0) (verdict_by sheet both given) (Refused manifest)

module _ (s : Text) (b : List ℕ) where
  -- what is known of the sheet's files and sources
  abbrev pub fact_table : List ℕ
  fact_table = gathered s (table_of s) (lookups_of s) b

  -- the correspondences
  abbrev pub links_in : List Link
  links_in = links_by s (table_of s) (lookups_of s) fact_table (machine_table fact_table) b (table_in (read_of b)).snapshots.at (table_in (read_of b)).snapshots.count

  abbrev pub given_in : Given
  given_in = given_by s (table_of s) (lookups_of s) fact_table (table_in (read_of b)) (length links_in)

  unfoldable pub told : Told
  told = verdict (refusal_of s) (read_of b) (first_of checks (facts_by fact_table)) given_in
