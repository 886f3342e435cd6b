-- The refusals 26 to 30 in a record, given what the records before it left; and the step over a record. Assumes nothing.
use Rattle.std.specs.Prelude.{Option, Some, None, Result, Ok, Err, Bool, true, false, ◌||◌, List, ℕ, ◌+◌, ◌-◌, ◌*◌, ◌/◌, ◌%◌, ◌^◌, eqb, ltb, leb, length}
use Rattle.bits.specs.Bits.{number}
use Rattle.records.specs.Layout.{Record, file, source, snapshot, event, ending, unknown, pick, record_at, size_of}
use Rattle.records.specs.declared.State.{State}

-- 26: the record or the end is cut off
abbrev pub cut : List ℕ → State → Record → Bool
cut s st r = ltb (8 * length s) (st.at + size_of r)

-- 27: kind 5 to 7, or lower than before; the end may always come
abbrev pub low : State → Record → Bool
low st (file c k p) = ltb 1 st.last
low st (source x) = ltb 2 st.last
low st (snapshot x) = ltb 3 st.last
low st (event x) = ltb 4 st.last
low st ending = false
low st unknown = true

-- file f is a container: bit f of `containers`
abbrev pub is_container : ℕ → ℕ → Bool
is_container containers f = eqb (containers / 2 ^ f % 2) 1

-- clock 7, clock 0 or one clock twice, in a snapshot
abbrev pub clocks_wrong : ℕ → ℕ → Bool
clocks_wrong a b = (eqb a 7 || eqb b 7) || ((eqb a 0 || eqb b 0) || eqb a b)

-- 28: path length 0, clock 7, file or source not yet listed, source of a container, snapshot with clock 0 or one clock twice
abbrev pub wrong : State → Record → Bool
wrong st (file c k p) = eqb (length p) 0 || eqb k 7
wrong st (source x) = leb st.files x.file.0 || is_container st.containers x.file.0
wrong st (snapshot x) = leb st.sources x.source || clocks_wrong x.clock x.clock2
wrong st (event x) = leb st.sources x.source || eqb x.clock 7
wrong st ending = false
wrong st unknown = false

-- how many bits there are from e to the byte's end
abbrev pub to_byte_end : ℕ → ℕ
to_byte_end e = (8 - e % 8) % 8

-- after an end record that ends at e: one of the bits to the byte's end is set, or there is a byte more
unfoldable pub after_end : List ℕ → ℕ → Bool
after_end s e = ltb 0 (number s e (to_byte_end e)) || ltb (e + to_byte_end e) (8 * length s)

-- 29: a bit set, or a byte, after the end
abbrev pub after : List ℕ → State → Record → Bool
after s st ending = after_end s (st.at + 3)
after s st (file c k p) = false
after s st (source x) = false
after s st (snapshot x) = false
after s st (event x) = false
after s st unknown = false

-- 30: too many files, sources or snapshots
abbrev pub full : State → Record → Bool
full st (file c k p) = leb 32 st.files
full st (source x) = leb 32 st.sources
full st (snapshot x) = leb 256 st.snapshots
full st (event x) = false
full st ending = false
full st unknown = false

-- the smallest number that applies in the record, 0 if none does
unfoldable pub fault_of : Bool → Bool → Bool → Bool → Bool → ℕ
fault_of a b c d e = pick a 26 (pick b 27 (pick c 28 (pick d 29 (pick e 30 0))))

abbrev pub fault : List ℕ → State → Record → ℕ
fault s st r = fault_of (cut s st r) (low st r) (wrong st r) (after s st r) (full st r)

-- ---- the step over a record

-- what a record does: the state after it, the end of the sheet, or a refusal, 26 to 30. Bad 0 is no state of a sheet.
pub data Step : Type 0 where
  Next : State → Step
  End : Step
  Bad : ℕ → Step

-- which of these a result of the code is, that has None at the end, and an error of which this is the number
abbrev pub told : {E : Type 0} → (E → ℕ) → Result (Option State) E → Step
told code (Ok (Some n)) = Next n
told code (Ok None) = End
told code (Err e) = Bad (code e)

-- a flag as a number
abbrev pub bit : Bool → ℕ
bit true = 1
bit false = 0

-- the state after a record
abbrev pub next : State → Record → State
next st (file c k p) =
    record {
      at = st.at + (15 + 8 * length p);
      last = 1;
      files = st.files + 1;
      containers = st.containers + bit c * 2 ^ st.files;
      sources = st.sources;
      snapshots = st.snapshots;
      events = st.events;
    }
next st (source x) =
    record { at = st.at + 40; last = 2; files = st.files; containers = st.containers; sources = st.sources + 1; snapshots = st.snapshots; events = st.events }
next st (snapshot x) =
    record { at = st.at + 142; last = 3; files = st.files; containers = st.containers; sources = st.sources; snapshots = st.snapshots + 1; events = st.events }
next st (event x) =
    record { at = st.at + 75; last = 4; files = st.files; containers = st.containers; sources = st.sources; snapshots = st.snapshots; events = st.events + 1 }
next st ending = st
next st unknown = st

-- a record in which no number applies leads on, the end ends (a kind that is none never gets here: 27)
abbrev pub passed : State → Record → Step
passed st (file c k p) = Next (next st (file c k p))
passed st (source x) = Next (next st (source x))
passed st (snapshot x) = Next (next st (snapshot x))
passed st (event x) = Next (next st (event x))
passed st ending = End
passed st unknown = End

-- the step over a record r
unfoldable pub step_for : List ℕ → State → Record → Step
step_for s st r = pick (eqb (fault s st r) 0) (passed st r) (Bad (fault s st r))

-- the step over the record at the state's position
unfoldable pub step_at : List ℕ → State → Step
step_at s st = step_for s st (record_at s st.at)
