-- The words of the theorems: what it is that records stand in a sheet, that a list holds something twice, and that a sheet has an answer. Assumes nothing.
use Rattle.std.specs.Prelude.{◌≡◌, Bool, false, ◌⊎◌, List, [], ◌∷◌, ℕ, ◌≤◌, ◌<◌, length, get_or}
use Rattle.records.specs.Layout.{Record, file, source, snapshot, event, ending, unknown, record_at}
use Rattle.records.specs.Faults.{step_at, Next, End, Bad}
use Rattle.records.specs.States.{start}
use Rattle.records.specs.declared.State.{State}
use Rattle.records.specs.declared.Source.{Source}
use Rattle.sheet.specs.Lists.{paths_of, sources_of}
use Rattle.sheet.specs.Sheets.{table_of, Sheet, Refused, Listed}

-- from st on stand the records rs, no number applies in any of them, and e is the state after them
pub data Stands (s : List ℕ) : State → List Record → State → Type 0 where
  here : {st : State} → Stands s st [] st
  on : {st n e : State} {r : Record} {rs : List Record} → r ≡ record_at s st.at → step_at s st ≡ Next n → Stands s n rs e → Stands s st (r ∷ rs) e

-- two places of a list hold the same
pub record Twice {A : Type 0} (d : A) (xs : List A) : Type 0 where
  pub first : ℕ
  pub second : ℕ
  pub order : first < second
  pub inside : second < length xs
  pub equal : get_or xs first d ≡ get_or xs second d

-- what stands past the end of a list of sources
abbrev pub no_source : Source
no_source = record { file = record { 0 = 0 }; id = 0 }

-- 31: a path twice, or a file and id twice
pub data Repeated (rs : List Record) : Type 0 where
  a_path : Twice [] (paths_of rs) → Repeated rs
  a_source : Twice no_source (sources_of rs) → Repeated rs

-- a size that is not refused
pub record Sized (s : List ℕ) : Type 0 where
  pub some : 0 < length s
  pub short : length s ≤ 65536

-- the answer to a sheet: 25 by its size; a number by the first record in which one applies; 31 where all stand and something is there twice; else its table
pub data Answers (s : List ℕ) : Sheet → Type 0 where
  by_size : (length s ≡ 0) ⊎ (65536 < length s) → Answers s (Refused 25)
  by_record : {rs : List Record} {e : State} {k : ℕ} → Sized s → Stands s start rs e → step_at s e ≡ Bad k → Answers s (Refused k)
  by_twice : {rs : List Record} {e : State} → Sized s → Stands s start rs e → step_at s e ≡ End → Repeated rs → Answers s (Refused 31)
  by_all : {rs : List Record} {e : State} → Sized s → Stands s start rs e → step_at s e ≡ End → (Repeated rs → ⊥) → Answers s (Listed (table_of rs))

-- the container flag of a file
abbrev pub flag_of : Record → Bool
flag_of (file c k p) = c
flag_of (source x) = false
flag_of (snapshot x) = false
flag_of (event x) = false
flag_of ending = false
flag_of unknown = false

-- the kind of a record; what is no kind stands above them all
abbrev pub kind_of : Record → ℕ
kind_of (file c k p) = 1
kind_of (source x) = 2
kind_of (snapshot x) = 3
kind_of (event x) = 4
kind_of ending = 0
kind_of unknown = 5
