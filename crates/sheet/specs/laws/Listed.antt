-- The records of a sheet in order, and where they lie: since kinds never go down, each kind is a run. Assumes nothing.
use Rattle.std.specs.Prelude.{◌≡◌, refl, List, [], ◌∷◌, ℕ, zero, suc, ◌+◌, ◌-◌, ◌*◌, ◌≤◌, ◌<◌, length, get_or}
use Rattle.std.proofs.Common.{sym, ap, ◌∙◌, arith, mul-suc, ltb-false}
use Rattle.records.specs.Layout.{Record, file_here, path_here, source_here, snapshot_here, event_here, size_of}
use Rattle.records.specs.States.{start, Fit}
use Rattle.records.specs.laws.Steps.{a_file, a_source, a_snapshot, an_event}
use Rattle.records.specs.declared.State.{State}
use Rattle.sheet.specs.Lists.{files_of, paths_of, sources_of, snapshots_of, events_of}
use Rattle.sheet.specs.Sheets.{files_size, table_of}
use Rattle.sheet.specs.Places.{every, files_from, paths_from, sources_from, snapshots_from, events_from, place_of}
use Rattle.sheet.specs.laws.Ended.{Held, table_at}
use Rattle.sheet.specs.laws.Reads.{Reads, done, more}
use Rattle.sheet.specs.declared.Table.{Table}

-- the i-th file
pub file_at : (s : List ℕ) (at n i : ℕ) (d : Record) → i < n → get_or (files_from s at n) i d ≡ file_here s (place_of s at i)
unfolding files_from place_of
file_at s at zero i d h = absurd (omega arith)
file_at s at (suc n) zero d h = refl
file_at s at (suc n) (suc i) d h = file_at s (at + size_of (file_here s at)) n i d (omega arith)

-- and its path
pub path_at_lem : (s : List ℕ) (at n i : ℕ) (d : List ℕ) → i < n → get_or (paths_from s at n) i d ≡ path_here s (place_of s at i)
unfolding paths_from place_of
path_at_lem s at zero i d h = absurd (omega arith)
path_at_lem s at (suc n) zero d h = refl
path_at_lem s at (suc n) (suc i) d h = path_at_lem s (at + size_of (file_here s at)) n i d (omega arith)

-- the i-th of n things of one size
pub every_at : {A : Type 0} (here : ℕ → A) (size at n i : ℕ) (d : A) → i < n → get_or (every here size at n) i d ≡ here (at + size * i)
unfolding every
every_at here size at zero i d h = absurd (omega arith)
every_at here size at (suc n) zero d h =
    let e : at ≡ at + size * 0 = omega arith in
    ap here e
every_at here size at (suc n) (suc i) d h =
    let e : at + size + size * i ≡ at + size * suc i = omega (arith, mul-suc size i) in
    every_at here size (at + size) n i d (omega arith) ∙ ap here e

every_none : {A : Type 0} (here : ℕ → A) (size at : ℕ) {n : ℕ} → n ≡ 0 → every here size at n ≡ []
unfolding every
every_none here size at e = rw e

every_more : {A : Type 0} (here : ℕ → A) (size at : ℕ) {b : ℕ} (n : ℕ) {xs : List A} → b ≡ at → xs ≡ every here size (b + size) n → here at ∷ xs ≡ every here size b (suc n)
unfolding every
every_more here size at n e q = rw (q, e)

-- ---- how the counts grow, since kinds never go down
pub record Grown (st e : State) : Type 0 where
  pub files_up : st.files ≤ e.files
  pub sources_up : st.sources ≤ e.sources
  pub snapshots_up : st.snapshots ≤ e.snapshots
  pub events_up : st.events ≤ e.events
  pub no_files : 2 ≤ st.last → e.files ≡ st.files
  pub no_sources : 3 ≤ st.last → e.sources ≡ st.sources
  pub no_snapshots : 4 ≤ st.last → e.snapshots ≡ st.snapshots
  pub span : 2 ≤ st.last → e.at + 40 * st.sources + 142 * st.snapshots + 75 * st.events ≡ st.at + 40 * e.sources + 142 * e.snapshots + 75 * e.events
  pub room : st.at + 40 * e.sources + 142 * e.snapshots + 75 * e.events ≤ e.at + 40 * st.sources + 142 * st.snapshots + 75 * st.events

pub grown : {s : List ℕ} {st e : State} {rs : List Record} → Reads s st rs e → Grown st e
grown done =
    record { files_up = omega arith; sources_up = omega arith; snapshots_up = omega arith; events_up = omega arith; no_files = λ l. refl; no_sources = λ l. refl; no_snapshots = λ l. refl; span = λ l. refl; room = omega arith }
grown {s} {st} {e} (more a_file p rd) =
    let g = grown rd in
    let o : st.last ≤ 1 = ltb-false 1 st.last p.in_order in
    record {
      files_up = omega (arith, g.files_up);
      sources_up = g.sources_up;
      snapshots_up = g.snapshots_up;
      events_up = g.events_up;
      no_files = λ (l : 2 ≤ st.last). absurd (omega arith);
      no_sources = λ (l : 3 ≤ st.last). absurd (omega arith);
      no_snapshots = λ (l : 4 ≤ st.last). absurd (omega arith);
      span = λ (l : 2 ≤ st.last). absurd (omega arith);
      room = omega (arith, g.room);
    }
grown {s} {st} {e} (more a_source p rd) =
    let g = grown rd in
    let o : st.last ≤ 2 = ltb-false 2 st.last p.in_order in
    record {
      files_up = g.files_up;
      sources_up = omega (arith, g.sources_up);
      snapshots_up = g.snapshots_up;
      events_up = g.events_up;
      no_files = λ (l : 2 ≤ st.last). g.no_files (omega arith);
      no_sources = λ (l : 3 ≤ st.last). absurd (omega arith);
      no_snapshots = λ (l : 4 ≤ st.last). absurd (omega arith);
      span = λ (l : 2 ≤ st.last). omega (arith, g.span (omega arith));
      room = omega (arith, g.room);
    }
grown {s} {st} {e} (more a_snapshot p rd) =
    let g = grown rd in
    let o : st.last ≤ 3 = ltb-false 3 st.last p.in_order in
    record {
      files_up = g.files_up;
      sources_up = g.sources_up;
      snapshots_up = omega (arith, g.snapshots_up);
      events_up = g.events_up;
      no_files = λ (l : 2 ≤ st.last). g.no_files (omega arith);
      no_sources = λ (l : 3 ≤ st.last). g.no_sources (omega arith);
      no_snapshots = λ (l : 4 ≤ st.last). absurd (omega arith);
      span = λ (l : 2 ≤ st.last). omega (arith, g.span (omega arith));
      room = omega (arith, g.room);
    }
grown {s} {st} {e} (more an_event p rd) =
    let g = grown rd in
    record {
      files_up = g.files_up;
      sources_up = g.sources_up;
      snapshots_up = g.snapshots_up;
      events_up = omega (arith, g.events_up);
      no_files = λ (l : 2 ≤ st.last). g.no_files (omega arith);
      no_sources = λ (l : 3 ≤ st.last). g.no_sources (omega arith);
      no_snapshots = λ (l : 4 ≤ st.last). g.no_snapshots (omega arith);
      span = λ (l : 2 ≤ st.last). omega (arith, g.span (omega arith));
      room = omega (arith, g.room);
    }

-- ---- the files
paths_none : (s : List ℕ) (at : ℕ) {n : ℕ} → n ≡ 0 → paths_from s at n ≡ []
unfolding paths_from
paths_none s at e = rw e

files_none : (s : List ℕ) (at : ℕ) {n : ℕ} → n ≡ 0 → files_from s at n ≡ []
unfolding files_from
files_none s at e = rw e

paths_are : {s : List ℕ} {st e : State} {rs : List Record} → Reads s st rs e → (n : ℕ) → st.files + n ≡ e.files → paths_of rs ≡ paths_from s st.at n
unfolding paths_of paths_from
paths_are {s} {st} done n c = let z : n ≡ 0 = omega arith in sym (paths_none s st.at z)
paths_are (more a_file p rd) zero c = absurd (omega (arith, (grown rd).files_up))
paths_are {s} {st} (more a_file p rd) (suc n) c = ap (λ (l : List (List ℕ)). path_here s st.at ∷ l) (paths_are rd n (omega arith))
paths_are {s} {st} (more a_source p rd) n c =
    let z : n ≡ 0 = omega (arith, (grown rd).no_files (omega arith)) in
    paths_are rd n c ∙ paths_none s _ z ∙ sym (paths_none s st.at z)
paths_are {s} {st} (more a_snapshot p rd) n c =
    let z : n ≡ 0 = omega (arith, (grown rd).no_files (omega arith)) in
    paths_are rd n c ∙ paths_none s _ z ∙ sym (paths_none s st.at z)
paths_are {s} {st} (more an_event p rd) n c =
    let z : n ≡ 0 = omega (arith, (grown rd).no_files (omega arith)) in
    paths_are rd n c ∙ paths_none s _ z ∙ sym (paths_none s st.at z)

files_are : {s : List ℕ} {st e : State} {rs : List Record} → Reads s st rs e → (n : ℕ) → st.files + n ≡ e.files → files_of rs ≡ files_from s st.at n
unfolding files_of files_from
files_are {s} {st} done n c = let z : n ≡ 0 = omega arith in sym (files_none s st.at z)
files_are (more a_file p rd) zero c = absurd (omega (arith, (grown rd).files_up))
files_are {s} {st} (more a_file p rd) (suc n) c = ap (λ (l : List Record). file_here s st.at ∷ l) (files_are rd n (omega arith))
files_are {s} {st} (more a_source p rd) n c =
    let z : n ≡ 0 = omega (arith, (grown rd).no_files (omega arith)) in
    files_are rd n c ∙ files_none s _ z ∙ sym (files_none s st.at z)
files_are {s} {st} (more a_snapshot p rd) n c =
    let z : n ≡ 0 = omega (arith, (grown rd).no_files (omega arith)) in
    files_are rd n c ∙ files_none s _ z ∙ sym (files_none s st.at z)
files_are {s} {st} (more an_event p rd) n c =
    let z : n ≡ 0 = omega (arith, (grown rd).no_files (omega arith)) in
    files_are rd n c ∙ files_none s _ z ∙ sym (files_none s st.at z)

-- ---- the sources: n of them, the first at b
sources_are : {s : List ℕ} {st e : State} {rs : List Record} → Reads s st rs e → (n b : ℕ) → st.sources + n ≡ e.sources →
    b + 40 * n + 142 * e.snapshots + 75 * e.events ≡ e.at + 142 * st.snapshots + 75 * st.events → sources_of rs ≡ every (source_here s) 40 b n
unfolding sources_of
sources_are {s} done n b c q = let z : n ≡ 0 = omega arith in sym (every_none (source_here s) 40 b z)
sources_are (more a_file p rd) n b c q = sources_are rd n b c q
sources_are (more a_source p rd) zero b c q = absurd (omega (arith, (grown rd).sources_up))
sources_are {s} {st} {e} (more a_source p rd) (suc n) b c q =
    let z : b ≡ st.at = omega (arith, (grown rd).span (omega arith)) in
    every_more (source_here s) 40 st.at n z (sources_are rd n (b + 40) (omega arith) (omega arith))
sources_are {s} {st} {e} (more a_snapshot p rd) n b c q =
    let z : n ≡ 0 = omega (arith, (grown rd).no_sources (omega arith)) in
    sources_are rd n (b + 142) c (omega arith) ∙ every_none (source_here s) 40 (b + 142) z ∙ sym (every_none (source_here s) 40 b z)
sources_are {s} {st} {e} (more an_event p rd) n b c q =
    let z : n ≡ 0 = omega (arith, (grown rd).no_sources (omega arith)) in
    sources_are rd n (b + 75) c (omega arith) ∙ every_none (source_here s) 40 (b + 75) z ∙ sym (every_none (source_here s) 40 b z)

-- ---- the snapshots
snapshots_are : {s : List ℕ} {st e : State} {rs : List Record} → Reads s st rs e → (n b : ℕ) → st.snapshots + n ≡ e.snapshots →
    b + 142 * n + 75 * e.events ≡ e.at + 75 * st.events → snapshots_of rs ≡ every (snapshot_here s) 142 b n
unfolding snapshots_of
snapshots_are {s} done n b c q = let z : n ≡ 0 = omega arith in sym (every_none (snapshot_here s) 142 b z)
snapshots_are (more a_file p rd) n b c q = snapshots_are rd n b c q
snapshots_are (more a_source p rd) n b c q = snapshots_are rd n b c q
snapshots_are (more a_snapshot p rd) zero b c q = absurd (omega (arith, (grown rd).snapshots_up))
snapshots_are {s} {st} {e} (more a_snapshot p rd) (suc n) b c q =
    let z : b ≡ st.at = omega (arith, (grown rd).span (omega arith), (grown rd).no_sources (omega arith)) in
    every_more (snapshot_here s) 142 st.at n z (snapshots_are rd n (b + 142) (omega arith) (omega arith))
snapshots_are {s} {st} {e} (more an_event p rd) n b c q =
    let z : n ≡ 0 = omega (arith, (grown rd).no_snapshots (omega arith)) in
    snapshots_are rd n (b + 75) c (omega arith) ∙ every_none (snapshot_here s) 142 (b + 75) z ∙ sym (every_none (snapshot_here s) 142 b z)

-- ---- the events
events_are : {s : List ℕ} {st e : State} {rs : List Record} → Reads s st rs e → (n b : ℕ) → st.events + n ≡ e.events → b + 75 * n ≡ e.at → events_of rs ≡ every (event_here s) 75 b n
unfolding events_of
events_are {s} done n b c q = let z : n ≡ 0 = omega arith in sym (every_none (event_here s) 75 b z)
events_are (more a_file p rd) n b c q = events_are rd n b c q
events_are (more a_source p rd) n b c q = events_are rd n b c q
events_are (more a_snapshot p rd) n b c q = events_are rd n b c q
events_are (more an_event p rd) zero b c q = absurd (omega (arith, (grown rd).events_up))
events_are {s} {st} {e} (more an_event p rd) (suc n) b c q =
    let z : b ≡ st.at = omega (arith, (grown rd).span (omega arith), (grown rd).no_sources (omega arith), (grown rd).no_snapshots (omega arith)) in
    every_more (event_here s) 75 st.at n z (events_are rd n (b + 75) (omega arith) (omega arith))

-- ---- a state counts the records before it, and stands past them
pub record Counts (rs : List Record) (st e : State) : Type 0 where
  pub files : e.files ≡ st.files + length (files_of rs)
  pub sources : e.sources ≡ st.sources + length (sources_of rs)
  pub snapshots : e.snapshots ≡ st.snapshots + length (snapshots_of rs)
  pub events : e.events ≡ st.events + length (events_of rs)
  pub at : e.at ≡ st.at + files_size rs + 40 * length (sources_of rs) + 142 * length (snapshots_of rs) + 75 * length (events_of rs)

pub counts : {s : List ℕ} {st e : State} {rs : List Record} → Reads s st rs e → Counts rs st e
unfolding files_of sources_of snapshots_of events_of files_size
counts done = record { files = omega arith; sources = omega arith; snapshots = omega arith; events = omega arith; at = omega arith }
counts (more a_file p rd) =
    let q = counts rd in
    record { files = omega (arith, q.files); sources = q.sources; snapshots = q.snapshots; events = q.events; at = omega (arith, q.at) }
counts (more a_source p rd) =
    let q = counts rd in
    record { files = q.files; sources = omega (arith, q.sources); snapshots = q.snapshots; events = q.events; at = omega (arith, q.at) }
counts (more a_snapshot p rd) =
    let q = counts rd in
    record { files = q.files; sources = q.sources; snapshots = omega (arith, q.snapshots); events = q.events; at = omega (arith, q.at) }
counts (more an_event p rd) =
    let q = counts rd in
    record { files = q.files; sources = q.sources; snapshots = q.snapshots; events = omega (arith, q.events); at = omega (arith, q.at) }

-- ---- all of a sheet

-- the records of each kind are those that lie where the table says
pub record Lies (s : List ℕ) (rs : List Record) (t : Table) : Type 0 where
  pub files : files_of rs ≡ files_from s 0 t.files
  pub paths : paths_of rs ≡ paths_from s 0 t.files
  pub sources : sources_of rs ≡ sources_from s t.sources.at t.sources.count
  pub snapshots : snapshots_of rs ≡ snapshots_from s t.snapshots.at t.snapshots.count
  pub events : events_of rs ≡ events_from s t.events.at t.events.count

pub held : {s : List ℕ} {e : State} {rs : List Record} → Reads s start rs e → Fit s e → Held e
held rd f = record { inside = omega (arith, (grown rd).room); near = omega (arith, f.here, f.short) }

pub lies : {s : List ℕ} {e : State} {rs : List Record} → Reads s start rs e → Lies s rs (table_at e)
lies {s} {e} {rs} rd =
    let r = (grown rd).room in
    record {
      files = files_are rd e.files (omega arith);
      paths = paths_are rd e.files (omega arith);
      sources = sources_are rd e.sources _ (omega arith) (omega arith);
      snapshots = snapshots_are rd e.snapshots _ (omega arith) (omega arith);
      events = events_are rd e.events _ (omega arith) (omega arith);
    }

-- the table from the end backwards is the table of the records
pub table_is : {s : List ℕ} {e : State} {rs : List Record} → Reads s start rs e → table_of rs ≡ table_at e
table_is {s} {e} {rs} rd =
    let q = counts rd in
    let f : length (files_of rs) ≡ e.files = omega (arith, q.files) in
    let o : length (sources_of rs) ≡ e.sources = omega (arith, q.sources) in
    let n : length (snapshots_of rs) ≡ e.snapshots = omega (arith, q.snapshots) in
    let v : length (events_of rs) ≡ e.events = omega (arith, q.events) in
    let a : files_size rs ≡ e.at - 75 * e.events - 142 * e.snapshots - 40 * e.sources = omega (arith, q.at) in
    let b : files_size rs + 40 * length (sources_of rs) ≡ e.at - 75 * e.events - 142 * e.snapshots = omega (arith, q.at) in
    let c : files_size rs + 40 * length (sources_of rs) + 142 * length (snapshots_of rs) ≡ e.at - 75 * e.events = omega (arith, q.at) in
    rw (c, b, a, f, o, n, v)
