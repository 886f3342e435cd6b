-- A sheet is the list of its records, or refused by the first record in which one of 26 to 30 applies; 25 comes before, 31 after. Assumes nothing.
use Rattle.std.specs.Prelude.{Result, Ok, Err, Bool, ◌||◌, List, [], ◌∷◌, ℕ, zero, suc, ◌+◌, ◌*◌, eqb, ltb, length}
use Rattle.refusals.specs.Refusals.{number}
use Rattle.refusals.specs.declared.Refusal.{Refusal}
use Rattle.records.specs.Layout.{Record, file, source, snapshot, event, ending, unknown, pick, record_at, size_of}
use Rattle.records.specs.Faults.{step_at, Step, Next, End, Bad}
use Rattle.records.specs.States.{start}
use Rattle.records.specs.declared.State.{State}
use Rattle.sheet.specs.Lists.{files_of, sources_of, snapshots_of, events_of}
use Rattle.sheet.specs.Twice.{again}
use Rattle.sheet.specs.declared.Table.{Table}

-- the records, or the refusal
pub data Out : Type 0 where
  refused : ℕ → Out
  records : List Record → Out

-- a record in front of the rest
abbrev pub before : Record → Out → Out
before r (refused k) = refused k
before r (records rs) = records (r ∷ rs)

-- by the step over the record r: it leads on to the rest, ends the sheet, or refuses it
abbrev pub onward : Record → (State → Out) → Step → Out
onward r rest (Next n) = before r (rest n)
onward r rest End = records []
onward r rest (Bad k) = refused k

-- the records from a state on, at most n of them
unfoldable pub records_from : ℕ → List ℕ → State → Out
records_from zero s st = refused 26
records_from (suc n) s st = onward (record_at s st.at) (λ m. records_from n s m) (step_at s st)

-- the sheet's records; there are fewer than bits (`sheet_found` shows that the bound is never met)
unfoldable pub sheet_of : List ℕ → Out
sheet_of s = records_from (suc (8 * length s)) s start

-- how many bits the files have
unfoldable pub files_size : List Record → ℕ
files_size [] = 0
files_size (file c k p ∷ rs) = size_of (file c k p) + files_size rs
files_size (source x ∷ rs) = files_size rs
files_size (snapshot x ∷ rs) = files_size rs
files_size (event x ∷ rs) = files_size rs
files_size (ending ∷ rs) = files_size rs
files_size (unknown ∷ rs) = files_size rs

-- how many of each kind there are, and where the first of each lies: after the files the sources, then the snapshots, then the events
abbrev pub table_of : List Record → Table
table_of rs =
    record {
      files = length (files_of rs);
      sources = record { count = length (sources_of rs); at = files_size rs };
      snapshots = record { count = length (snapshots_of rs); at = files_size rs + 40 * length (sources_of rs) };
      events = record { count = length (events_of rs); at = files_size rs + 40 * length (sources_of rs) + 142 * length (snapshots_of rs) };
    }

-- what reading a sheet gives: a refusal's number, or the table
pub data Sheet : Type 0 where
  Refused : ℕ → Sheet
  Listed : Table → Sheet

-- which of these the code's result is
abbrev pub told : Result Table Refusal → Sheet
told (Ok t) = Listed t
told (Err r) = Refused (number r)

-- 31 comes after the records
unfoldable pub judged : Out → Sheet
judged (refused k) = Refused k
judged (records rs) = pick (again rs) (Refused 31) (Listed (table_of rs))

-- 25: sheet empty or too long
abbrev pub size_wrong : List ℕ → Bool
size_wrong s = eqb (length s) 0 || ltb 65536 (length s)

-- what reading a sheet gives
unfoldable pub read_of : List ℕ → Sheet
read_of s = pick (size_wrong s) (Refused 25) (judged (sheet_of s))
