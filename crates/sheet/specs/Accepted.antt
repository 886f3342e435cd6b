-- What an accepted sheet is to a caller: its records, nothing twice, and the i-th of each kind by its place. Assumes nothing.
use Rattle.std.specs.Prelude.{◌≡◌, refl, List, ℕ, ◌+◌, ◌*◌, ◌<◌, ◌≤◌, length, get_or}
use Rattle.std.proofs.Common.{sym, ap, ◌∙◌, arith}
use Rattle.records.specs.Layout.{Record, head_here, file_here, source_here, snapshot_here, event_here}
use Rattle.records.specs.Readers.{head_at, source_at, snapshot_at, event_at, path_at}
use Rattle.records.specs.Faults.{step_at, End}
use Rattle.records.specs.States.{start, Fit}
use Rattle.records.specs.laws.States.{fit_start}
use Rattle.records.specs.laws.Fields.{head_near, source_near, snapshot_near, event_near, path_near}
use Rattle.records.specs.declared.State.{State}
use Rattle.records.specs.declared.Source.{Source}
use Rattle.records.specs.declared.Snapshot.{Snapshot}
use Rattle.records.specs.declared.Event.{Event}
use Rattle.sheet.specs.Lists.{files_of, paths_of, sources_of, snapshots_of, events_of}
use Rattle.sheet.specs.Sheets.{records, sheet_of, table_of, read_of, Sheet, Refused, Listed}
use Rattle.sheet.specs.Places.{place_of, file_places}
use Rattle.sheet.specs.Meaning.{Stands, Repeated, Answers, by_size, by_record, by_twice, by_all}
use Rattle.sheet.specs.laws.Ended.{table_at}
use Rattle.sheet.specs.laws.Reads.{Reads, stands_reads, fit_end}
use Rattle.sheet.specs.laws.Listed.{Lies, lies, held, table_is, counts, file_at, path_at_lem, every_at}
use Rattle.sheet.specs.laws.Places.{place_near, places_at}
use Rattle.sheet.specs.laws.Decides.{read_answers, ends_so}
use Rattle.sheet.specs.laws.Valid.{GoodSource, GoodSnapshot, GoodEvent, sources_good, snapshots_good, events_good}
use Rattle.sheet.specs.declared.Table.{Table}

pub record Accepted (s : List ℕ) (t : Table) : Type 0 where
  -- the records, the state at the end, and that nothing is there twice
  pub rs : List Record
  pub end : State
  pub stands : Stands s start rs end
  pub ends : step_at s end ≡ End
  pub sheet : sheet_of s ≡ records rs
  pub once : Repeated rs → ⊥
  pub table : t ≡ table_of rs
  -- the records of each kind are those that lie where the table says
  pub lies : Lies s rs t
  -- the sizes
  pub few_files : t.files ≤ 32
  pub few_sources : t.sources.count ≤ 32
  pub few_snapshots : t.snapshots.count ≤ 256
  pub files_are : end.files ≡ t.files
  pub sources_are : end.sources ≡ t.sources.count
  -- one run after the other, to the end
  pub sources_end : t.sources.at + 40 * t.sources.count ≡ t.snapshots.at
  pub snapshots_end : t.snapshots.at + 142 * t.snapshots.count ≡ t.events.at
  pub events_end : t.events.at + 75 * t.events.count ≤ 8 * length s
  pub short : length s ≤ 65536

never : {k : ℕ} {t : Table} → Refused k ≡ Listed t → ⊥
never e = let z : ◌≡◌ {A = ℕ} 0 1 = cc in omega arith

same_table : {t u : Table} → Listed t ≡ Listed u → t ≡ u
same_table e = cc

of_answer : (s : List ℕ) {x : Sheet} {t : Table} → Answers s x → x ≡ Listed t → Accepted s t
of_answer s (by_size h) e = absurd (never e)
of_answer s (by_record z w h) e = absurd (never e)
of_answer s (by_twice z w h r) e = absurd (never e)
of_answer s {x} {t} (by_all {rs} {e = f} z w h n) q =
    let rd = stands_reads w in
    let g : Fit s f = fit_end rd (fit_start (omega (arith, z.short))) in
    let k = held rd g in
    let v : table_at f ≡ t = sym (table_is rd) ∙ same_table q in
    let u : table_of rs ≡ t = same_table q in
    rw (← v)
    (record {
      rs = rs;
      end = f;
      stands = w;
      ends = h;
      sheet = ends_so s (omega (arith, z.short)) w h;
      once = n;
      table = sym (table_is rd);
      lies = lies rd;
      few_files = g.few_files;
      few_sources = g.few_sources;
      few_snapshots = g.few_snapshots;
      files_are = refl;
      sources_are = refl;
      sources_end = omega (arith, k.inside);
      snapshots_end = omega (arith, k.inside);
      events_end = omega (arith, k.inside, g.here);
      short = z.short;
    })

-- a sheet that is listed has its records
pub accepted : (s : List ℕ) (t : Table) → read_of s ≡ Listed t → Accepted s t
accepted s t h = of_answer s (read_answers s) h

-- ---- by index: what the readers give at the i-th place is the i-th of its kind, and it is good
module _ {s : List ℕ} {t : Table} (a : Accepted s t) (i : ℕ) where
  reads : Reads s start a.rs a.end
  reads = stands_reads a.stands

  -- ---- sources
  pub source_of : (d : Source) → i < t.sources.count → source_at s (t.sources.at + 40 * i) ≡ get_or (sources_of a.rs) i d
  source_of d h =
      source_near s (t.sources.at + 40 * i) (omega (arith, a.sources_end, a.snapshots_end, a.events_end, a.short))
      ∙ sym (every_at (source_here s) 40 t.sources.at t.sources.count i d h) ∙ ap (λ (l : List Source). get_or l i d) (sym a.lies.sources)

  pub source_good : (d : Source) → i < t.sources.count → GoodSource a.end (get_or (sources_of a.rs) i d)
  source_good d h = sources_good reads d i (omega (arith, (counts reads).sources, a.sources_are))

  -- ---- snapshots
  pub snapshot_of_lem : (d : Snapshot) → i < t.snapshots.count → snapshot_at s (t.snapshots.at + 142 * i) ≡ get_or (snapshots_of a.rs) i d
  snapshot_of_lem d h =
      snapshot_near s (t.snapshots.at + 142 * i) (omega (arith, a.snapshots_end, a.events_end, a.short))
      ∙ sym (every_at (snapshot_here s) 142 t.snapshots.at t.snapshots.count i d h) ∙ ap (λ (l : List Snapshot). get_or l i d) (sym a.lies.snapshots)

  pub snapshot_good : (d : Snapshot) → i < t.snapshots.count → GoodSnapshot a.end (get_or (snapshots_of a.rs) i d)
  snapshot_good d h =
      let e : t.snapshots.count ≡ length (snapshots_of a.rs) = ap (λ (u : Table). u.snapshots.count) a.table in
      snapshots_good reads d i (omega arith)

  -- ---- events
  pub event_of : (d : Event) → i < t.events.count → event_at s (t.events.at + 75 * i) ≡ get_or (events_of a.rs) i d
  event_of d h =
      event_near s (t.events.at + 75 * i) (omega (arith, a.events_end, a.short))
      ∙ sym (every_at (event_here s) 75 t.events.at t.events.count i d h) ∙ ap (λ (l : List Event). get_or l i d) (sym a.lies.events)

  pub event_good : (d : Event) → i < t.events.count → GoodEvent a.end (get_or (events_of a.rs) i d)
  event_good d h =
      let e : t.events.count ≡ length (events_of a.rs) = ap (λ (u : Table). u.events.count) a.table in
      events_good reads d i (omega arith)

  -- ---- files: the i-th stands at its place, which `file_places` gives
  pub file_of : (d : Record) → i < t.files → file_here s (place_of s 0 i) ≡ get_or (files_of a.rs) i d
  file_of d h = sym (file_at s 0 t.files i d h) ∙ ap (λ (l : List Record). get_or l i d) (sym a.lies.files)

  pub place_of_lem : i < t.files → get_or (file_places s t.files) i 0 ≡ place_of s 0 i
  place_of_lem h = places_at s t.files i a.few_files h

  pub head_of : i < t.files → head_at s (place_of s 0 i) ≡ head_here s (place_of s 0 i)
  head_of h = head_near s (place_of s 0 i) (omega (arith, place_near s i, a.few_files))

  pub path_of : (d : List ℕ) → i < t.files → path_at s (place_of s 0 i) ≡ get_or (paths_of a.rs) i d
  path_of d h =
      path_near s (place_of s 0 i) (omega (arith, place_near s i, a.few_files))
      ∙ sym (path_at_lem s 0 t.files i d h) ∙ ap (λ (l : List (List ℕ)). get_or l i d) (sym a.lies.paths)
