-- What stands at a bit position, on every input: the record's fields as they are laid out. From position 2^36 on, which no sheet of fewer
-- than 2^32 bytes reaches, there is nothing, which reads as zeros. Assumes nothing.
use Rattle.std.specs.Prelude.{false, List, ℕ, ◌+◌, pos, ltb}
use Rattle.records.specs.Layout.{pick, bytes_at, head_here, source_here, snapshot_here, event_here}
use Rattle.records.specs.declared.Head.{Head}
use Rattle.records.specs.declared.Source.{Source}
use Rattle.records.specs.declared.Snapshot.{Snapshot}
use Rattle.records.specs.declared.Event.{Event}

-- the first position from which nothing is read
abbrev pub far : ℕ
far = 0x1000000000

unfoldable pub head_at : List ℕ → ℕ → Head
head_at s at = pick (ltb at far) (head_here s at) (record { container = false; claim = 0; length = 0 })

unfoldable pub source_at : List ℕ → ℕ → Source
source_at s at = pick (ltb at far) (source_here s at) (record { file = record { 0 = 0 }; id = 0 })

unfoldable pub snapshot_at : List ℕ → ℕ → Snapshot
snapshot_at s at = pick (ltb at far) (snapshot_here s at) (record { source = 0; clock = 0; reading = pos 0; clock2 = 0; reading2 = pos 0 })

unfoldable pub event_at : List ℕ → ℕ → Event
event_at s at = pick (ltb at far) (event_here s at) (record { source = 0; clock = 0; reading = pos 0 })

-- the path of the file at a bit position
abbrev pub path_at : List ℕ → ℕ → List ℕ
path_at s at = bytes_at s (at + 15) (head_at s at).length
