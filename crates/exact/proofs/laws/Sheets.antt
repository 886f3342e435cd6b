-- An accepted sheet's sources are of files that it lists, its snapshots and events of such sources (28), and no path is in it twice (31). Assumes nothing.
use Rattle.std.specs.Prelude.{◌≡◌, refl, Bool, true, false, List, [], ◌∷◌, map, ℕ, ◌<◌, length, get_or}
use Rattle.std.proofs.Common.{sym, ap, subst, ◌∙◌, arith}
use Rattle.text.specs.Reading.{Text, pick}
use Rattle.records.specs.Layout.{Record, file, source, snapshot, event, ending, unknown}
use Rattle.records.specs.declared.Source.{Source}
use Rattle.records.specs.declared.Snapshot.{Snapshot}
use Rattle.records.specs.declared.Event.{Event}
use Rattle.sheet.specs.Twice.{again}
use Rattle.sheet.specs.Lists.{files_of, paths_of, sources_of, snapshots_of, events_of}
use Rattle.sheet.specs.Sheets.{Out, refused, records, table_of, size_wrong, sheet_of}
use Rattle.sheet.specs.Accepted.{Accepted, accepted, source_good, snapshot_good, event_good}
use Rattle.sheet.specs.Meaning.{a_path}
use Rattle.sheet.specs.declared.Table.{Table}
use Rattle.manifest.specs.Statements.{At}
use Rattle.manifest.proofs.laws.Lists.{at_below}
use Rattle.merged.specs.Facts.{Filed, Parts, filed, parts_of}
use Rattle.merged.specs.Merged.{once, records_of}
use Rattle.merged.proofs.laws.Lists.{length_map}
use Rattle.merged.proofs.laws.Sheets.{told, read_told}
use Rattle.exact.proofs.laws.Lists.{apart, at_get_d, at_map}

-- what is cited is listed, and no path twice
pub record Sound (p : Parts) : Type 0 where
  pub files : (j : ℕ) (s : Source) → At p.sources j s → s.file.0 < length p.files
  pub sources : (n : ℕ) (x : Snapshot) → At p.snapshots n x → x.source < length p.sources
  pub events : (k : ℕ) (x : Event) → At p.events k x → x.source < length p.sources
  pub once : (f g : ℕ) (u v : Filed) → At p.files f u → At p.files g v → u.path ≡ v.path → f ≡ g

-- the records of an accepted sheet are those that it holds
held : (b : List ℕ) {rs : List Record} → records_of b ≡ records rs → sheet_of b ≡ records rs
unfolding records_of once pick
held b {rs} e = go (size_wrong b) (sheet_of b) refl e
  where
    last : (c : Bool) (ks : List Record) → pick c (refused 31) (records ks) ≡ records rs → records ks ≡ records rs
    last true ks h = let z : ◌≡◌ {A = ℕ} 0 1 = cc in absurd (omega arith)
    last false ks h = h

    go : (c : Bool) (o : Out) → sheet_of b ≡ o → pick c (refused 25) (once o) ≡ records rs → sheet_of b ≡ records rs
    go true o q h = let z : ◌≡◌ {A = ℕ} 0 1 = cc in absurd (omega arith)
    go false (refused k) q h = let z : ◌≡◌ {A = ℕ} 0 1 = cc in absurd (omega arith)
    go false (records ks) q h = q ∙ last (again ks) ks h

-- the paths of the files
paths_are : (rs : List Record) → map (λ (v : Filed). v.path) (map filed (files_of rs)) ≡ paths_of rs
unfolding files_of paths_of
paths_are [] = refl
paths_are (file c k t ∷ rs) = ap (λ (l : List Text). t ∷ l) (paths_are rs)
paths_are (source x ∷ rs) = paths_are rs
paths_are (snapshot x ∷ rs) = paths_are rs
paths_are (event x ∷ rs) = paths_are rs
paths_are (ending ∷ rs) = paths_are rs
paths_are (unknown ∷ rs) = paths_are rs

path_at_lem : (rs : List Record) {f : ℕ} {v : Filed} → At (map filed (files_of rs)) f v → At (paths_of rs) f v.path
path_at_lem rs {f} {v} h = subst (λ (l : List Text). At l f v.path) (paths_are rs) (at_map (λ (u : Filed). u.path) h)

same_records : {rs ks : List Record} → records rs ≡ records ks → rs ≡ ks
same_records e = cc

-- AN ACCEPTED SHEET IS SOUND
pub accepted_sound : (b : List ℕ) {rs : List Record} → records_of b ≡ records rs → Sound (parts_of rs)
unfolding told
accepted_sound b {rs} e = subst (λ (k : List Record). Sound (parts_of k)) is (record { files = of_file; sources = of_source; events = of_event; once = apart_so })
  where
    a : Accepted b (table_of rs)
    a = accepted b (table_of rs) (read_told b ∙ ap told e)

    is : a.rs ≡ rs
    is = same_records (sym a.sheet ∙ held b e)

    files_are : (table_of rs).files ≡ length (files_of a.rs)
    files_are = ap (λ (t : Table). t.files) a.table

    sources_are : (table_of rs).sources.count ≡ length (sources_of a.rs)
    sources_are = ap (λ (t : Table). t.sources.count) a.table

    snapshots_are : (table_of rs).snapshots.count ≡ length (snapshots_of a.rs)
    snapshots_are = ap (λ (t : Table). t.snapshots.count) a.table

    of_file : (j : ℕ) (s : Source) → At (sources_of a.rs) j s → s.file.0 < length (map filed (files_of a.rs))
    of_file j s h =
        let l : j < (table_of rs).sources.count = omega (arith, at_below h, sources_are) in
        let g : get_or (sources_of a.rs) j s ≡ s = at_get_d h s in
        let x = (source_good a j s l).listed in
        let y : s.file.0 < a.end.files = subst (λ (k : Source). k.file.0 < a.end.files) g x in
        omega (arith, a.files_are, files_are, length_map filed (files_of a.rs))

    of_source : (n : ℕ) (x : Snapshot) → At (snapshots_of a.rs) n x → x.source < length (sources_of a.rs)
    of_source n x h =
        let l : n < (table_of rs).snapshots.count = omega (arith, at_below h, snapshots_are) in
        let g : get_or (snapshots_of a.rs) n x ≡ x = at_get_d h x in
        let z = (snapshot_good a n x l).listed in
        let y : x.source < a.end.sources = subst (λ (k : Snapshot). k.source < a.end.sources) g z in
        omega (arith, a.sources_are, sources_are)

    events_are : (table_of rs).events.count ≡ length (events_of a.rs)
    events_are = ap (λ (t : Table). t.events.count) a.table

    of_event : (k : ℕ) (x : Event) → At (events_of a.rs) k x → x.source < length (sources_of a.rs)
    of_event k x h =
        let l : k < (table_of rs).events.count = omega (arith, at_below h, events_are) in
        let g : get_or (events_of a.rs) k x ≡ x = at_get_d h x in
        let z = (event_good a k x l).listed in
        let y : x.source < a.end.sources = subst (λ (k : Event). k.source < a.end.sources) g z in
        omega (arith, a.sources_are, sources_are)

    twice : {f g : ℕ} {u v : Filed} → At (map filed (files_of a.rs)) f u → At (map filed (files_of a.rs)) g v → u.path ≡ v.path → f < g → ⊥
    twice {f} {g} h k e l =
        let x = path_at_lem a.rs h in
        let y = path_at_lem a.rs k in
        a.once (a_path (record { first = f; second = g; order = l; inside = at_below y; equal = at_get_d x [] ∙ (e ∙ sym (at_get_d y [])) }))

    apart_so : (f g : ℕ) (u v : Filed) → At (map filed (files_of a.rs)) f u → At (map filed (files_of a.rs)) g v → u.path ≡ v.path → f ≡ g
    apart_so f g u v h k e = apart f g (twice h k e) (twice k h (sym e))
