-- `paths_twice` looks for each path among the later ones. The invariant says that the paths from a file on repeat themselves exactly if all do. Assumes nothing.
use Rattle.sheet.specs.Twice.{repeats, same_bytes}
use Rattle.sheet.specs.Places.{paths_from, place_of}
use Prim.Native.Nat.{◌-◌}
use mathlib.Core.Path.{◌≡◌}
use Rattle.sheet.proofs.paths_twice.Given as goal

abbrev pub invariant-loop-file : goal.invariant-loop-file
invariant-loop-file l = repeats same_bytes (paths_from l.s (place_of l.s 0 l.file) (l.n - l.file)) ≡ repeats same_bytes (paths_from l.s 0 l.n)
