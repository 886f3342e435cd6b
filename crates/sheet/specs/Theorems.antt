-- What reading a sheet means, said without a walk: `Stands`, `Twice`, `Repeated` and `Answers` are in Meaning. Assumes nothing.
use Rattle.std.specs.Prelude.{◌≡◌, true, List, [], ℕ, ◌+◌, ◌≤◌, ◌<◌, length, get_or}
use Rattle.std.proofs.Common.{ap, ◌∙◌, arith}
use Rattle.records.specs.Layout.{Record, unknown}
use Rattle.records.specs.Faults.{step_at, is_container, End, Bad}
use Rattle.records.specs.States.{start, step_of}
use Rattle.records.specs.laws.States.{fit_start, fit_step}
use Rattle.records.specs.declared.State.{State}
use Rattle.records.specs.declared.Source.{Source}
use Rattle.sheet.specs.Lists.{files_of}
use Rattle.sheet.specs.Twice.{repeats, same_bytes, same_source}
use Rattle.sheet.specs.Sheets.{refused, records, sheet_of, read_of, Sheet}
use Rattle.sheet.specs.Meaning.{Stands, Twice, no_source, Answers, flag_of, kind_of}
use Rattle.sheet.specs.laws.Reads.{stands_reads, fit_end}
use Rattle.sheet.specs.laws.Listed.{Counts, counts}
use Rattle.sheet.specs.laws.Repeats as Repeats
use Rattle.sheet.specs.laws.Decides as Decides
use Rattle.sheet.specs.laws.Decides.{Found}
use Rattle.sheet.specs.laws.Order as Order
use Rattle.sheet.specs.laws.Flags as Flags

-- ---- the answer

-- what reading gives is an answer to the sheet,
pub read_answers : (s : List ℕ) → Answers s (read_of s)
read_answers = Decides.read_answers

-- and a sheet has no other: "A number is given exactly when it applies and the order picks it"
pub answers_only : (s : List ℕ) {x : Sheet} → Answers s x → x ≡ read_of s
answers_only = Decides.answers_only

-- ---- the first record in which a number applies decides; for any bytes, fewer than 2^32 of them

-- the sheet is its records where they stand and then comes the end, or refused with k where some stand and the next gives k: nothing else happens
pub sheet_found : (s : List ℕ) → length s ≤ 0xffffffff → Found s start (sheet_of s)
sheet_found = Decides.sheet_found

-- and back
pub ends_so : (s : List ℕ) {e : State} {rs : List Record} → length s ≤ 0xffffffff → Stands s start rs e → step_at s e ≡ End → sheet_of s ≡ records rs
ends_so = Decides.ends_so

pub refused_so : (s : List ℕ) {e : State} {rs : List Record} {k : ℕ} → length s ≤ 0xffffffff → Stands s start rs e → step_at s e ≡ Bad k → sheet_of s ≡ refused k
refused_so = Decides.refused_so

-- at every state that records lead to, the step on every input is the step over the record there: it is never Bad 0 for want of a state
pub reached : {s : List ℕ} {e : State} {rs : List Record} → length s ≤ 0xffffffff → Stands s start rs e → step_of s e ≡ step_at s e
reached l w = fit_step (fit_end (stands_reads w) (fit_start l))

-- ---- 31

-- a list repeats itself exactly where two of its places hold the same: paths,
pub paths_twice : (ps : List (List ℕ)) → repeats same_bytes ps ≡ true → Twice [] ps
paths_twice = Repeats.repeats_twice [] same_bytes Repeats.bytes_tell

pub twice_paths : (ps : List (List ℕ)) → Twice [] ps → repeats same_bytes ps ≡ true
twice_paths = Repeats.twice_repeats [] same_bytes Repeats.bytes_tell

-- and sources
pub sources_twice : (xs : List Source) → repeats same_source xs ≡ true → Twice no_source xs
sources_twice = Repeats.repeats_twice no_source same_source Repeats.sources_tell

pub twice_sources : (xs : List Source) → Twice no_source xs → repeats same_source xs ≡ true
twice_sources = Repeats.twice_repeats no_source same_source Repeats.sources_tell

-- ---- the records that stand

-- kinds never go down
pub never_down : {s : List ℕ} {st e : State} {rs : List Record} → Stands s st rs e → (i j : ℕ) → i < j → j < length rs → kind_of (get_or rs i unknown) ≤ kind_of (get_or rs j unknown)
never_down w = Order.never_down (stands_reads w)

-- a state counts the records before it, and stands past them
pub state_counts : {s : List ℕ} {e : State} {rs : List Record} → Stands s start rs e → Counts rs start e
state_counts w = counts (stands_reads w)

-- bit f of its `containers` is the container flag of file f
pub container_is : {s : List ℕ} {e : State} {rs : List Record} → length s ≤ 0xffffffff → Stands s start rs e → (f : ℕ) → f < length (files_of rs) →
    is_container e.containers f ≡ flag_of (get_or (files_of rs) f unknown)
container_is {s} {e} l w f h =
    let z : f ≡ 0 + f = omega arith in
    ap (is_container e.containers) z ∙ Flags.flag_is (stands_reads w) (fit_start l) f h
