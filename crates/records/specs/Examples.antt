-- Worked examples, by computing: document 01's sheet 2C 02 C2 80 00 00 00 01 01 80 00 00 00 00 00 00 01 40, record by record. Assumes nothing.
use Rattle.std.specs.Prelude.{◌≡◌, refl, false, List, [], ◌∷◌, ℕ, pos, negsuc}
use Rattle.bits.specs.Bits.{number}
use Rattle.records.specs.Layout.{file, source, snapshot, event, ending, pick, bytes_at, record_of, record_at}
use Rattle.records.specs.Faults.{fault_of, after_end, step_for, step_at, Next, End, Bad}
use Rattle.records.specs.States.{start, may_be, step_of}
use Rattle.records.specs.Readers.{event_at}
use Rattle.records.specs.declared.State.{State}

abbrev sheet : List ℕ
sheet = 0x2c ∷ 0x02 ∷ 0xc2 ∷ 0x80 ∷ 0x00 ∷ 0x00 ∷ 0x00 ∷ 0x01 ∷ 0x01 ∷ 0x80 ∷ 0x00 ∷ 0x00 ∷ 0x00 ∷ 0x00 ∷ 0x00 ∷ 0x00 ∷ 0x01 ∷ 0x40 ∷ []

-- its records: a file with claimed clock 6 and the path "a", a source of file 0 with id 0, an event of source 0 on clock 6 that reads 5, the end
the_file : record_at sheet 0 ≡ file false 6 (97 ∷ [])
unfolding record_at record_of pick bytes_at number
the_file = refl

the_source : record_at sheet 23 ≡ source (record { file = record { 0 = 0 }; id = 0 })
unfolding record_at record_of pick number
the_source = refl

the_event : record_at sheet 63 ≡ event (record { source = 0; clock = 6; reading = pos 5 })
unfolding record_at record_of pick number
the_event = refl

the_end : record_at sheet 138 ≡ ending
unfolding record_at record_of pick number
the_end = refl

-- the states between them
abbrev one : State
one = record { at = 23; last = 1; files = 1; containers = 0; sources = 0; snapshots = 0; events = 0 }

abbrev two : State
two = record { at = 63; last = 2; files = 1; containers = 0; sources = 1; snapshots = 0; events = 0 }

abbrev three : State
three = record { at = 138; last = 4; files = 1; containers = 0; sources = 1; snapshots = 0; events = 1 }

to_one : step_of sheet start ≡ Next one
unfolding step_of may_be step_at step_for fault_of record_at record_of pick bytes_at number
to_one = refl

to_two : step_of sheet one ≡ Next two
unfolding step_of may_be step_at step_for fault_of record_at record_of pick number
to_two = refl

to_three : step_of sheet two ≡ Next three
unfolding step_of may_be step_at step_for fault_of record_at record_of pick number
to_three = refl

to_end : step_of sheet three ≡ End
unfolding step_of may_be step_at step_for fault_of after_end record_at record_of pick number
to_end = refl

-- a state that is none of a sheet: past the end, a thirty-third file, a container that is no file
past_the_end : step_of (0 ∷ []) (record { at = 9; last = 0; files = 0; containers = 0; sources = 0; snapshots = 0; events = 0 }) ≡ Bad 0
unfolding step_of may_be pick
past_the_end = refl

no_such_file : step_of (0 ∷ []) (record { at = 0; last = 1; files = 1; containers = 2; sources = 0; snapshots = 0; events = 0 }) ≡ Bad 0
unfolding step_of may_be pick
no_such_file = refl

-- a snapshot: readings in two's complement, -1 on clock 1 and -2^63 on clock 2, at odd bit positions
readings :
    record_at
    (0x60 ∷ 0x3f ∷ 0xff ∷ 0xff ∷ 0xff ∷ 0xff ∷ 0xff ∷ 0xff ∷ 0xff ∷ 0xea ∷ 0 ∷ 0 ∷ 0 ∷ 0 ∷ 0 ∷ 0 ∷ 0 ∷ 0 ∷ []) 0
    ≡ snapshot (record { source = 0; clock = 1; reading = negsuc 0; clock2 = 2; reading2 = negsuc 9223372036854775807 })
unfolding record_at record_of pick number
readings = refl

-- past every sheet there is nothing
nothing : event_at sheet 0x1000000000 ≡ record { source = 0; clock = 0; reading = pos 0 }
unfolding event_at pick
nothing = refl
