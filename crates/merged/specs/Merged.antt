-- The merge: from a manifest's bytes, a sheet's bytes and the lengths of the lent memories to what is answered and what the memories hold. Assumes nothing.
use Rattle.std.specs.Prelude.{Bool, ◌&&◌, List, ◌++◌, map, ℕ, ◌-◌, ◌*◌, eqb, leb, ℤ, pos, length, replicate}
use Rattle.text.specs.Reading.{Text, pick}
use Rattle.numbers.specs.Numbers.{clocks}
use Rattle.manifest.specs.Meaning.{Meaning}
use Rattle.manifest.specs.Manifest.{refusal_of, meaning_of}
use Rattle.sheet.specs.Twice.{again}
use Rattle.sheet.specs.Sheets.{Out, refused, records, sheet_of, size_wrong}
use Rattle.clocks.specs.Answers.{Answer as EventAnswer, answers_of, time_of, kind_of, steps_of}
pub use Rattle.merged.specs.declared.Room.{Room}
use Rattle.merged.specs.Answers.{Answer, Refused, Merged}
use Rattle.merged.specs.Facts.{Parts, parts_of, facts_of}
use Rattle.merged.specs.Machines.{machines_of, machine_count}
use Rattle.merged.specs.Refusals.{checks, first_of}
use Rattle.merged.specs.Timeline.{event_clock, trace_of, world_of}

-- ---- the sheet: 25 to 31, or its records

unfoldable pub once : Out → Out
once (refused k) = refused k
once (records rs) = pick (again rs) (refused 31) (records rs)

unfoldable pub records_of : List ℕ → Out
records_of b = pick (size_wrong b) (refused 25) (once (sheet_of b))

-- ---- the lent memories

-- 38: lent memory shorter than docs/MEMORY.md fixes from the counts
unfoldable pub roomy : Parts → Room → Bool
roomy p room =
    leb (length p.sources) room.machines
    && leb (length p.events) room.times
    && leb (length p.events) room.kinds
    && leb (length p.events) room.steps
    && leb (clocks * clocks) room.matrix
    && leb (length p.events) room.readings
    && leb (length p.events) room.clocks

-- ---- what is answered, and what the memories hold at the end

pub record Outcome : Type 0 where
  pub answer : Answer
  pub machines : List ℕ
  pub times : List ℤ
  pub kinds : List ℕ
  pub steps : List ℕ

-- a list, then zeros to the end of its memory
abbrev pub padded {ℓ} : {A : Type ℓ} → A → ℕ → List A → List A
padded z room xs = xs ++ replicate (room - length xs) z

-- "Every refusal sets all lent output and working memory to zeros"
unfoldable pub refused_by : ℕ → Room → Outcome
refused_by n room =
    record {
      answer = Refused n;
      machines = replicate room.machines 0;
      times = replicate room.times (pos 0);
      kinds = replicate room.kinds 0;
      steps = replicate room.steps 0;
    }

-- each event's answer, in order
unfoldable pub answers_in : Meaning → Parts → List EventAnswer
answers_in w p = answers_of (world_of w p) (map (event_clock (facts_of w p)) p.events) (map (λ e. e.reading) p.events)

-- "At acceptance lent memory past the answers is zero"
unfoldable pub accepted_by : Meaning → Parts → Room → Outcome
accepted_by w p room =
    record {
      answer = Merged (record { files = length p.files; machines = machine_count (facts_of w p); events = length p.events; trace = trace_of (facts_of w p) w.trace });
      machines = padded 0 room.machines (machines_of (facts_of w p));
      times = padded (pos 0) room.times (map time_of (answers_in w p));
      kinds = padded 0 room.kinds (map kind_of (answers_in w p));
      steps = padded 0 room.steps (map steps_of (answers_in w p));
    }

-- ---- THE MERGE

-- 32 to 37, then 38
unfoldable pub refusal_joined : Meaning → Parts → Room → ℕ
refusal_joined w p room = pick (eqb (first_of checks (facts_of w p)) 0) (pick (roomy p room) 0 38) (first_of checks (facts_of w p))

unfoldable pub joined : Meaning → Parts → Room → Outcome
joined w p room = pick (eqb (refusal_joined w p room) 0) (accepted_by w p room) (refused_by (refusal_joined w p room) room)

-- 25 to 31, then the rest
unfoldable pub merged_with : Meaning → Out → Room → Outcome
merged_with w (refused k) room = refused_by k room
merged_with w (records rs) room = joined w (parts_of rs) room

-- 1 to 24, then the rest. The work memories hold zeros at the end, whatever is answered
unfoldable pub merged : Text → List ℕ → Room → Outcome
merged m b room =
    pick (eqb (refusal_of m) 0) (merged_with (meaning_of m) (records_of b) room) (refused_by (refusal_of m) room)
