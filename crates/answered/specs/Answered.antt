-- What is answered and written by a table of what is known (crate checks), a sheet's bytes and a world. Assumes nothing.
use Rattle.std.specs.Prelude.{List, map, ℕ, min, eqb, ℤ, length, take, None, Some}
use Rattle.text.specs.Reading.{pick}
use Rattle.records.specs.declared.Event.{Event}
use Rattle.graphs.specs.Graphs.{World}
use Rattle.clocks.specs.Answers.{Room, Filled, filled}
use Rattle.merged.specs.Answers.{Answer, Merged}
use Rattle.checks.specs.Machines.{machine_table}
use Rattle.lines.specs.Lines.{clock_by, events_at, over, reach}
use Rattle.placed.specs.declared.Given.{Given}
use Rattle.placed.specs.declared.Known.{Known}

-- a byte holds at most 255
abbrev pub as_byte : ℕ → ℕ
as_byte n = min 255 n

-- the machine of each source, of 32 at most, as far as a memory goes
abbrev pub machines_in : List ℕ → ℕ → ℕ → List ℕ
machines_in t sources room = map as_byte (take (min sources (min 32 room)) (machine_table t))

-- the events, as far as 32 bits count them and two memories take them
abbrev pub marked_in : List ℕ → ℕ → ℕ → ℕ → ℕ → List Event
marked_in b at events p q = events_at b at (reach (min events 0xffffffff) p q)

-- their clocks, and their readings, over what the memories held
module _ (t b : List ℕ) (at events : ℕ) (clocks : List ℕ) (readings : List ℤ) where
  abbrev pub clocks_in : List ℕ
  clocks_in = over (map (clock_by t (machine_table t)) (marked_in b at events (length clocks) (length readings))) clocks

  abbrev pub readings_in : List ℤ
  readings_in = over (map (λ e. e.reading) (marked_in b at events (length clocks) (length readings))) readings

-- each event's answer in a world
abbrev pub events_in : List ℕ → List ℕ → Known → World → List ℕ → List ℤ → Room → Filled
events_in t b k w clocks readings room =
    filled w (take k.given.events (clocks_in t b k.at k.given.events clocks readings)) (take k.given.events (readings_in t b k.at k.given.events clocks readings)) room

-- the answer
unfoldable pub summed : Given → Answer
summed g = Merged (record { files = g.files; machines = g.machines; events = g.events; trace = pick (eqb g.files 0) None (Some g.trace) })
