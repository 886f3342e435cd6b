-- What a merge comes to, in the values that the code has: a manifest's tables, the table of what is known, and where the sheet's records lie. Theorem
-- `accepted_is` says that it is the merge. Assumes nothing.
use Rattle.std.specs.Prelude.{◌≡◌, Bool, ◌&&◌, List, map, ℕ, ◌*◌, ◌≤◌, leb, pos}
use Rattle.text.specs.Reading.{Text}
use Rattle.numbers.specs.Numbers.{clocks}
use Rattle.manifest.specs.Manifest.{refusal_of}
use Rattle.records.specs.declared.Event.{Event}
use Rattle.sheet.specs.Sheets.{read_of}
use Rattle.sheet.specs.declared.Table.{Table}
use Rattle.sheet.specs.Sheets.{Listed}
use Rattle.reader.specs.Reader.{table_of, lookups_of}
use Rattle.meant.specs.Meant.{timeline_of}
use Rattle.graphs.specs.Graphs.{World}
use Rattle.clocks.specs.Answers.{Answer as EventAnswer, answers_of, time_of, kind_of, steps_of}
use Rattle.merged.specs.Answers.{Merged}
use Rattle.merged.specs.Machines.{machine_count, machines_of}
use Rattle.merged.specs.Refusals.{is_pinned}
use Rattle.merged.specs.Timeline.{bits_of, trace_by, trace_of}
use Rattle.merged.specs.declared.Room.{Room}
use Rattle.merged.specs.Merged.{padded, Outcome}
use Rattle.checks.specs.Table.{facts_by}
use Rattle.checks.specs.Machines.{machine_table}
use Rattle.gather.specs.Gathered.{gathered}
use Rattle.lines.specs.Lines.{clock_by, links_by, events_at}

-- both byte strings are accepted, and these are their tables
pub record Read (s : Text) (b ix names t : List ℕ) (p : Table) : Type 0 where
  pub manifest : refusal_of s ≡ 0
  pub index : ix ≡ table_of s
  pub names_are : names ≡ lookups_of s
  pub sheet : read_of b ≡ Listed p
  pub known : t ≡ gathered s ix names b

-- the sheet's counts and places are small
pub record Small (p : Table) : Type 0 where
  pub files : p.files ≤ 32
  pub sources : p.sources.count ≤ 32
  pub snapshots_placed : p.snapshots.at ≤ 524288
  pub events : p.events.count ≤ 6990
  pub events_placed : p.events.at ≤ 524288

-- 38, by the numbers of sources and events
unfoldable pub roomy_for : ℕ → ℕ → Room → Bool
roomy_for sources events room =
    leb sources room.machines
    && leb events room.times
    && leb events room.kinds
    && leb events room.steps
    && leb (clocks * clocks) room.matrix
    && leb events room.readings
    && leb events room.clocks

module _ (s : Text) (b ix names t : List ℕ) (p : Table) where
  -- all that the graphs are made of
  unfoldable pub world_by : World
  world_by =
      record {
        machines = machine_count (facts_by t);
        files = p.files;
        pinned = bits_of (λ f. is_pinned f.tie) (facts_by t).files;
        trace = trace_by (facts_by t) (timeline_of s ix names);
        links = links_by s ix names t (machine_table t) b p.snapshots.at p.snapshots.count;
      }

  abbrev pub events_by : List Event
  events_by = events_at b p.events.at p.events.count

  -- each event's answer, in order
  unfoldable pub answers_by : List EventAnswer
  answers_by = answers_of world_by (map (clock_by t (machine_table t)) events_by) (map (λ e. e.reading) events_by)

  -- what is answered, and what the memories hold at the end
  unfoldable pub accepted_with : Room → Outcome
  accepted_with room =
      record {
        answer = Merged (record { files = p.files; machines = machine_count (facts_by t); events = p.events.count; trace = trace_of (facts_by t) (timeline_of s ix names) });
        machines = padded 0 room.machines (machines_of (facts_by t));
        times = padded (pos 0) room.times (map time_of answers_by);
        kinds = padded 0 room.kinds (map kind_of answers_by);
        steps = padded 0 room.steps (map steps_of answers_by);
      }
