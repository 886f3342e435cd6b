-- The records of a sheet, as document 01's table lays them out. Assumes nothing.
use Rattle.std.specs.Prelude.{Bool, true, false, List, [], ◌∷◌, ℕ, zero, suc, ◌+◌, ◌*◌, ℤ, eqb, length}
use Rattle.std.proofs.Common.{to_z}
use Rattle.std.specs.Int.{w64}
use Rattle.bits.specs.Bits.{number}
use Rattle.records.specs.declared.Head.{Head}
use Rattle.records.specs.declared.Source.{Source}
use Rattle.records.specs.declared.Snapshot.{Snapshot}
use Rattle.records.specs.declared.Event.{Event}

-- what a record says
pub data Record : Type 0 where
  file : (container : Bool) (claim : ℕ) (path : List ℕ) → Record
  source : Source → Record
  snapshot : Snapshot → Record
  event : Event → Record
  ending : Record
  unknown : Record

-- ---- the layout: the kind in 3 bits, then the fields one after the other. Bits past the end of the sheet read 0,
-- so that a record can be read before one knows that it is whole

-- n bytes from a bit position on
unfoldable pub bytes_at : List ℕ → ℕ → ℕ → List ℕ
bytes_at s at zero = []
bytes_at s at (suc n) = number s at 8 ∷ bytes_at s (at + 8) n

-- a reading: 64 bits in two's complement
abbrev pub reading_at : List ℕ → ℕ → ℤ
reading_at s at = to_z w64 (number s at 64)

-- 1 file: container flag 1, claimed clock 3, path length 8, path bytes
abbrev pub head_here : List ℕ → ℕ → Head
head_here s at = record { container = eqb (number s (at + 3) 1) 1; claim = number s (at + 3 + 1) 3; length = number s (at + 3 + 1 + 3) 8 }

abbrev pub path_here : List ℕ → ℕ → List ℕ
path_here s at = bytes_at s (at + 15) (head_here s at).length

abbrev pub file_here : List ℕ → ℕ → Record
file_here s at = file (head_here s at).container (head_here s at).claim (path_here s at)

-- 2 source: file 5, embedded machine id 32
abbrev pub source_here : List ℕ → ℕ → Source
source_here s at = record { file = record { 0 = number s (at + 3) 5 }; id = number s (at + 3 + 5) 32 }

-- 3 snapshot: source 5, clock 3, reading 64, clock 3, reading 64
abbrev pub snapshot_here : List ℕ → ℕ → Snapshot
snapshot_here s at =
    record {
      source = number s (at + 3) 5;
      clock = number s (at + 3 + 5) 3;
      reading = reading_at s (at + 3 + 5 + 3);
      clock2 = number s (at + 3 + 5 + 3 + 64) 3;
      reading2 = reading_at s (at + 3 + 5 + 3 + 64 + 3);
    }

-- 4 event: source 5, clock 3, reading 64
abbrev pub event_here : List ℕ → ℕ → Event
event_here s at = record { source = number s (at + 3) 5; clock = number s (at + 3 + 5) 3; reading = reading_at s (at + 3 + 5 + 3) }

unfoldable pub pick : {A : Type 0} → Bool → A → A → A
pick true a b = a
pick false a b = b

-- the record of kind k at a bit position: 0 is the end, 5 to 7 are no kinds
unfoldable pub record_of : List ℕ → ℕ → ℕ → Record
record_of s at k =
    pick (eqb k 0) ending
    (pick (eqb k 1) (file_here s at)
    (pick (eqb k 2) (source (source_here s at))
    (pick (eqb k 3) (snapshot (snapshot_here s at))
    (pick (eqb k 4) (event (event_here s at))
    unknown))))

-- the record at a bit position
unfoldable pub record_at : List ℕ → ℕ → Record
record_at s at = record_of s at (number s at 3)

-- how many bits a record has; no kind has no fields
abbrev pub size_of : Record → ℕ
size_of (file c k p) = 15 + 8 * length p
size_of (source x) = 40
size_of (snapshot x) = 142
size_of (event x) = 75
size_of ending = 3
size_of unknown = 3
