-- Which states a sheet can be in, and the step on every input. Assumes nothing.
use Rattle.std.specs.Prelude.{Bool, ◌&&◌, List, ℕ, ◌*◌, ◌^◌, ◌≤◌, ◌<◌, ltb, leb, length}
use Rattle.records.specs.Layout.{pick}
use Rattle.refusals.specs.Refusals.{number}
use Rattle.records.specs.Faults.{Step, Bad, step_at}
use Rattle.records.specs.declared.State.{State}
use Rattle.records.specs.declared.Fault.{Fault}
use Rattle.records.specs.declared.Fault.TheVariants.{Refused, NoState}

-- before the first record
abbrev pub start : State
start = record { at = 0; last = 0; files = 0; containers = 0; sources = 0; snapshots = 0; events = 0 }

-- a state that a sheet of fewer than 2^32 bytes can be in: the position lies inside, the counts keep the sizes,
-- only files have container bits, and there are no more events than bits
pub record Fit (s : List ℕ) (st : State) : Type 0 where
  pub short : length s ≤ 0xffffffff
  pub few_files : st.files ≤ 32
  pub here : st.at ≤ 8 * length s
  pub kind : st.last ≤ 4
  pub few_sources : st.sources ≤ 32
  pub few_snapshots : st.snapshots ≤ 256
  pub few_events : st.events ≤ st.at
  pub mask : st.containers < 2 ^ st.files

-- the same as a test
unfoldable pub may_be : List ℕ → State → Bool
may_be s st =
    leb (length s) 0xffffffff && (leb st.files 32 &&
    (((leb st.at (8 * length s) && leb st.last 4) && (leb st.sources 32 && leb st.snapshots 256)) &&
    (leb st.events st.at && ltb st.containers (2 ^ st.files))))

-- the step on every input: a state that is none of a sheet is Bad 0
unfoldable pub step_of : List ℕ → State → Step
step_of s st = pick (may_be s st) (step_at s st) (Bad 0)

-- the number of a fault: that of the refusal, or 0 of no state of a sheet
abbrev pub fault_number : Fault → ℕ
fault_number (Refused r) = number r
fault_number NoState = 0
