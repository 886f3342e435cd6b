-- The walk over the records again, for how it ends: at the end record, in which state, or at a fault; and the table that follows from that state. Assumes nothing.
use Rattle.std.specs.Prelude.{Result, Ok, Err, List, ℕ, zero, suc, ◌+◌, ◌-◌, ◌*◌, ◌≤◌, length}
use Rattle.refusals.specs.Refusals.{number}
use Rattle.refusals.specs.declared.Refusal.{Refusal}
use Rattle.records.specs.Faults.{step_at, Step, Next, End, Bad}
use Rattle.records.specs.States.{start}
use Rattle.records.specs.declared.State.{State}
use Rattle.sheet.specs.declared.Table.{Table}

-- at the end record, with the state before it; or at a refusal of this number
pub data Ended : Type 0 where
  at_end : State → Ended
  at_fault : ℕ → Ended

-- which of these the code's result is
abbrev pub told_end : Result State Refusal → Ended
told_end (Ok st) = at_end st
told_end (Err r) = at_fault (number r)

abbrev pub end_on : State → (State → Ended) → Step → Ended
end_on st rest (Next n) = rest n
end_on st rest End = at_end st
end_on st rest (Bad k) = at_fault k

unfoldable pub ended_from : ℕ → List ℕ → State → Ended
ended_from zero s st = at_fault 26
ended_from (suc n) s st = end_on st (λ m. ended_from n s m) (step_at s st)

unfoldable pub ended_of : List ℕ → Ended
ended_of s = ended_from (suc (8 * length s)) s start

-- the records of constant size lie before the end
pub record Held (st : State) : Type 0 where
  pub inside : 75 * st.events + 142 * st.snapshots + 40 * st.sources ≤ st.at
  pub near : st.at ≤ 0x7fffffff8

-- the table, from the end backwards
abbrev pub table_at : State → Table
table_at st =
    record {
      files = st.files;
      sources = record { count = st.sources; at = st.at - 75 * st.events - 142 * st.snapshots - 40 * st.sources };
      snapshots = record { count = st.snapshots; at = st.at - 75 * st.events - 142 * st.snapshots };
      events = record { count = st.events; at = st.at - 75 * st.events };
    }
