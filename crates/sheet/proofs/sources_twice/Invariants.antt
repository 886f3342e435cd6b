-- `sources_twice` looks for each source's key among the later ones. The invariant says that the sources from one on repeat themselves exactly if all do.
-- Assumes nothing.
use Rattle.sheet.specs.Places.{sources_from}
use Rattle.sheet.specs.Twice.{repeats, same_source}
use Prim.Native.Nat.{◌+◌, ◌-◌, ◌*◌}
use mathlib.Core.Path.{◌≡◌}
use Rattle.sheet.proofs.sources_twice.Given as goal

abbrev pub invariant-loop-i : goal.invariant-loop-i
invariant-loop-i l = repeats same_source (sources_from l.s (l.from + 40 * l.i) (l.n - l.i)) ≡ repeats same_source (sources_from l.s l.from l.n)
