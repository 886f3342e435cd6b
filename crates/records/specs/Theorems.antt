-- What the definitions of records mean. Assumes nothing.
use Rattle.std.specs.Prelude.{◌≡◌, refl, Bool, true, false, List, ◌++◌, ℕ, ◌+◌, ◌*◌, ◌≤◌, ◌<◌, length}
use Rattle.bits.specs.Bits.{number}
use Rattle.records.specs.Layout.{Record, pick, record_at, path_here, head_here, source_here, snapshot_here, event_here}
use Rattle.records.specs.Faults.{cut, low, wrong, after, full, fault_of, fault, to_byte_end, after_end, step_at, Next, Bad}
use Rattle.records.specs.States.{start, Fit, may_be, step_of}
use Rattle.records.specs.Readers.{far, head_at, source_at, snapshot_at, event_at, path_at}
use Rattle.records.specs.laws.Fields as Fields
use Rattle.records.specs.laws.States as States
use Rattle.records.specs.laws.Steps as Steps
use Rattle.records.specs.laws.Longer as Longer
use Rattle.records.specs.laws.Ends as Ends
use Rattle.records.specs.declared.State.{State}

-- ---- the smallest number that applies in a record

-- k is the smallest of 26 to 30 that applies in r, or 0 and none applies
pub data Smallest (s : List ℕ) (st : State) (r : Record) : ℕ → Type 0 where
  is_26 : cut s st r ≡ true → Smallest s st r 26
  is_27 : cut s st r ≡ false → low st r ≡ true → Smallest s st r 27
  is_28 : cut s st r ≡ false → low st r ≡ false → wrong st r ≡ true → Smallest s st r 28
  is_29 : cut s st r ≡ false → low st r ≡ false → wrong st r ≡ false → after s st r ≡ true → Smallest s st r 29
  is_30 : cut s st r ≡ false → low st r ≡ false → wrong st r ≡ false → after s st r ≡ false → full st r ≡ true → Smallest s st r 30
  is_none : cut s st r ≡ false → low st r ≡ false → wrong st r ≡ false → after s st r ≡ false → full st r ≡ false → Smallest s st r 0

-- `fault` is it,
pub fault_smallest : (s : List ℕ) (st : State) (r : Record) → Smallest s st r (fault s st r)
unfolding fault_of pick
fault_smallest s st r = go (cut s st r) (low st r) (wrong st r) (after s st r) (full st r) refl refl refl refl refl
  where
    go : (a b c d e : Bool) → cut s st r ≡ a → low st r ≡ b → wrong st r ≡ c → after s st r ≡ d → full st r ≡ e → Smallest s st r (fault_of a b c d e)
    go true b c d e p q u v w = is_26 p
    go false true c d e p q u v w = is_27 p q
    go false false true d e p q u v w = is_28 p q u
    go false false false true e p q u v w = is_29 p q u v
    go false false false false true p q u v w = is_30 p q u v w
    go false false false false false p q u v w = is_none p q u v w

-- and nothing else is
pub smallest_only : (s : List ℕ) (st : State) (r : Record) {k : ℕ} → Smallest s st r k → k ≡ fault s st r
unfolding fault_of pick
smallest_only s st r (is_26 p) = rw p
smallest_only s st r (is_27 p q) = rw (p, q)
smallest_only s st r (is_28 p q u) = rw (p, q, u)
smallest_only s st r (is_29 p q u v) = rw (p, q, u, v)
smallest_only s st r (is_30 p q u v w) = rw (p, q, u, v, w)
smallest_only s st r (is_none p q u v w) = rw (p, q, u, v, w)

-- a step refuses with the fault of the record that stands there, and never with 0
pub refuses : (s : List ℕ) (st : State) {k : ℕ} → step_at s st ≡ Bad k → (k ≡ fault s st (record_at s st.at)) × (k ≡ 0 → ⊥)
refuses = Steps.step_fault

-- ---- 29

-- there is nothing after an end at e exactly if the bits from e to the byte's end are zero and the sheet ends there
pub nothing_after : (s : List ℕ) (e : ℕ) → after_end s e ≡ false → (number s e (to_byte_end e) ≡ 0) × (8 * length s ≤ e + to_byte_end e)
nothing_after = Ends.nothing_after

pub no_more_after : (s : List ℕ) (e : ℕ) → number s e (to_byte_end e) ≡ 0 → 8 * length s ≤ e + to_byte_end e → after_end s e ≡ false
no_more_after = Ends.no_more_after

-- ---- the states of a sheet

-- the test and its meaning
pub may_fit : (s : List ℕ) (st : State) → may_be s st ≡ true → Fit s st
may_fit = States.may_fit

pub fit_may : {s : List ℕ} {st : State} → Fit s st → may_be s st ≡ true
fit_may = States.fit_may

-- every state that a sheet of fewer than 2^32 bytes reaches is such a state: the first,
pub first_fits : {s : List ℕ} → length s ≤ 0xffffffff → Fit s start
first_fits = States.fit_start

-- and each that a step leads to, which lies further on
pub next_fits : {s : List ℕ} {st n : State} → Fit s st → step_at s st ≡ Next n → Fit s n × (st.at < n.at)
next_fits = Steps.fit_moves

-- on these the step on every input is the step over the record that stands there
pub step_there : {s : List ℕ} {st : State} → Fit s st → step_of s st ≡ step_at s st
step_there = States.fit_step

-- ---- parts of a sheet

-- a step that leads on does not hang on what comes after the record
pub step_longer : (s t : List ℕ) (st : State) {n : State} → step_at s st ≡ Next n → step_at (s ++ t) st ≡ Next n
step_longer = Longer.step_longer

-- ---- the readers give the layout
module _ (s : List ℕ) (at : ℕ) (near : at < far) where
  pub head_near : head_at s at ≡ head_here s at
  head_near = Fields.head_near s at near

  pub source_near : source_at s at ≡ source_here s at
  source_near = Fields.source_near s at near

  pub snapshot_near : snapshot_at s at ≡ snapshot_here s at
  snapshot_near = Fields.snapshot_near s at near

  pub event_near : event_at s at ≡ event_here s at
  event_near = Fields.event_near s at near

  pub path_near : path_at s at ≡ path_here s at
  path_near = Fields.path_near s at near
