-- The files, paths, sources, snapshots and events of a list of records, in order: "Files, sources and events are numbered from 0". Assumes nothing.
use Rattle.std.specs.Prelude.{List, [], ◌∷◌, ℕ}
use Rattle.records.specs.Layout.{Record, file, source, snapshot, event, ending, unknown}
use Rattle.records.specs.declared.Source.{Source}
use Rattle.records.specs.declared.Snapshot.{Snapshot}
use Rattle.records.specs.declared.Event.{Event}

unfoldable pub files_of : List Record → List Record
files_of [] = []
files_of (file c k p ∷ rs) = file c k p ∷ files_of rs
files_of (source x ∷ rs) = files_of rs
files_of (snapshot x ∷ rs) = files_of rs
files_of (event x ∷ rs) = files_of rs
files_of (ending ∷ rs) = files_of rs
files_of (unknown ∷ rs) = files_of rs

unfoldable pub paths_of : List Record → List (List ℕ)
paths_of [] = []
paths_of (file c k p ∷ rs) = p ∷ paths_of rs
paths_of (source x ∷ rs) = paths_of rs
paths_of (snapshot x ∷ rs) = paths_of rs
paths_of (event x ∷ rs) = paths_of rs
paths_of (ending ∷ rs) = paths_of rs
paths_of (unknown ∷ rs) = paths_of rs

unfoldable pub sources_of : List Record → List Source
sources_of [] = []
sources_of (file c k p ∷ rs) = sources_of rs
sources_of (source x ∷ rs) = x ∷ sources_of rs
sources_of (snapshot x ∷ rs) = sources_of rs
sources_of (event x ∷ rs) = sources_of rs
sources_of (ending ∷ rs) = sources_of rs
sources_of (unknown ∷ rs) = sources_of rs

unfoldable pub snapshots_of : List Record → List Snapshot
snapshots_of [] = []
snapshots_of (file c k p ∷ rs) = snapshots_of rs
snapshots_of (source x ∷ rs) = snapshots_of rs
snapshots_of (snapshot x ∷ rs) = x ∷ snapshots_of rs
snapshots_of (event x ∷ rs) = snapshots_of rs
snapshots_of (ending ∷ rs) = snapshots_of rs
snapshots_of (unknown ∷ rs) = snapshots_of rs

unfoldable pub events_of : List Record → List Event
events_of [] = []
events_of (file c k p ∷ rs) = events_of rs
events_of (source x ∷ rs) = events_of rs
events_of (snapshot x ∷ rs) = events_of rs
events_of (event x ∷ rs) = x ∷ events_of rs
events_of (ending ∷ rs) = events_of rs
events_of (unknown ∷ rs) = events_of rs
