-- `path_again` looks for the path of file i among those of the files from j on. The invariant says that it is among these exactly if it is among all past i.
-- Assumes nothing.
use Rattle.records.specs.Layout.{path_here}
use Rattle.sheet.specs.Twice.{among, same_bytes}
use Rattle.sheet.specs.Places.{paths_from, place_of}
use Prim.Native.Nat.{◌+◌, ◌-◌}
use mathlib.Core.Path.{◌≡◌}
use Rattle.sheet.proofs.path_again.Given as goal

abbrev pub invariant-loop-j : goal.invariant-loop-j
invariant-loop-j l = among same_bytes (path_here l.s (place_of l.s 0 l.i)) (paths_from l.s (place_of l.s 0 l.j) (l.n - l.j)) ≡ among same_bytes (path_here l.s (place_of l.s 0 l.i)) (paths_from l.s (place_of l.s 0 (l.i + 1)) (l.n - (l.i + 1)))
