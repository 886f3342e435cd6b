-- Where records lie: n of one size from a bit position on, and files, whose sizes vary. Assumes nothing.
use Rattle.std.specs.Prelude.{List, [], ◌∷◌, ℕ, zero, suc, ◌+◌, ltb}
use Rattle.records.specs.Layout.{Record, pick, file_here, path_here, source_here, snapshot_here, event_here, size_of}
use Rattle.records.specs.declared.Source.{Source}
use Rattle.records.specs.declared.Snapshot.{Snapshot}
use Rattle.records.specs.declared.Event.{Event}

-- n things of one size, from a position on
unfoldable pub every : {A : Type 0} → (ℕ → A) → ℕ → ℕ → ℕ → List A
every here size at zero = []
every here size at (suc n) = here at ∷ every here size (at + size) n

abbrev pub sources_from : List ℕ → ℕ → ℕ → List Source
sources_from s at n = every (source_here s) 40 at n

abbrev pub snapshots_from : List ℕ → ℕ → ℕ → List Snapshot
snapshots_from s at n = every (snapshot_here s) 142 at n

abbrev pub events_from : List ℕ → ℕ → ℕ → List Event
events_from s at n = every (event_here s) 75 at n

-- n files, one after the other, and their paths
unfoldable pub files_from : List ℕ → ℕ → ℕ → List Record
files_from s at zero = []
files_from s at (suc n) = file_here s at ∷ files_from s (at + size_of (file_here s at)) n

unfoldable pub paths_from : List ℕ → ℕ → ℕ → List (List ℕ)
paths_from s at zero = []
paths_from s at (suc n) = path_here s at ∷ paths_from s (at + size_of (file_here s at)) n

-- the place of the i-th file from a position on
unfoldable pub place_of : List ℕ → ℕ → ℕ → ℕ
place_of s at zero = at
place_of s at (suc i) = place_of s (at + size_of (file_here s at)) i

-- f i, f (i + 1), .., n of them
unfoldable pub from : (ℕ → ℕ) → ℕ → ℕ → List ℕ
from f i zero = []
from f i (suc n) = f i ∷ from f (i + 1) n

-- the place of file i where there are n files; 0 if there is no file i
abbrev pub place_in : List ℕ → ℕ → ℕ → ℕ
place_in s n i = pick (ltb i n) (place_of s 0 i) 0

-- these for each of 32 files
unfoldable pub file_places : List ℕ → ℕ → List ℕ
file_places s n = from (place_in s n) 0 32
