-- What was told of a manifest and a sheet, in lent memories: whether it fits them, and what they hold at the end. Assumes nothing.
use Rattle.std.specs.Prelude.{List, ℕ, ◌*◌, min, ℤ, length}
use Rattle.text.specs.Reading.{pick}
use Rattle.numbers.specs.Numbers.{clocks}
use Rattle.clocks.specs.Answers.{Filled}
use Rattle.merged.specs.declared.Room.{Room}
use Rattle.merged.specs.Merged.{Outcome, padded, refused_by}
use Rattle.placed.specs.Placed.{world_in}
use Rattle.placed.specs.declared.Known.{Known}
use Rattle.placed.specs.Told.{Told, Refused, Accepted}
use Rattle.answered.specs.Answered.{machines_in, events_in, summed}
use Rattle.joins.specs.Joined.{roomy_for}

-- how long the memories are
abbrev pub room_in : List ℕ → List ℤ → List ℕ → List ℕ → List ℕ → List ℤ → List ℕ → Room
room_in machines times kinds steps matrix readings clocks =
    record {
      machines = length machines;
      times = length times;
      kinds = length kinds;
      steps = length steps;
      matrix = length matrix;
      readings = length readings;
      clocks = length clocks;
    }

-- what was told, or 38 where a memory is too short for it
unfoldable pub fitted_in : Room → Told → Told
fitted_in room (Refused n) = Refused n
fitted_in room (Accepted k) = pick (roomy_for k.sources k.given.events room) (Accepted k) (Refused 38)

module _ (t b a : List ℕ) (x : List ℤ) (c : List ℕ) (y : List ℤ) (on : List ℕ) (reads : List ℤ) (room : Room) where
  -- each event's answer, by the correspondences of four lists
  abbrev pub events_by : Known → Filled
  events_by k = events_in t b k (world_in k.given a x c y) on reads (record { times = room.times; kinds = room.kinds; steps = room.steps; matrix = min (clocks * clocks) room.matrix })

  -- zeros of a refusal; the answer of what is known
  unfoldable pub settled_in : Told → Outcome
  settled_in (Refused n) = refused_by n room
  settled_in (Accepted k) =
      record {
        answer = summed k.given;
        machines = padded 0 room.machines (machines_in t k.sources room.machines);
        times = (events_by k).times;
        kinds = (events_by k).kinds;
        steps = (events_by k).steps;
      }
