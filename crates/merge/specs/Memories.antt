-- The memories that the caller lends. Assumes nothing.
use Rattle.std.specs.Prelude.{List, ℕ, ℤ, length}
use Rattle.merged.specs.declared.Room.{Room}

-- how long they are
abbrev pub room_of : List ℕ → List ℤ → List ℕ → List ℕ → List ℕ → List ℤ → List ℕ → Room
room_of machines times kinds steps matrix readings clocks =
    record {
      machines = length machines;
      times = length times;
      kinds = length kinds;
      steps = length steps;
      matrix = length matrix;
      readings = length readings;
      clocks = length clocks;
    }
