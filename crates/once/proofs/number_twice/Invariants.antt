-- `once::number_twice` meets its contract: of numbers that rise no two are the same; else the invariant is that the numbers from place k on decide. Assumes nothing.
use mathlib.Core.Path.{◌≡◌}
use Prim.Native.Nat.{◌-◌}
use Rattle.manifest.specs.Rules.{twice_in}
use Rattle.once.specs.laws.Parts.{ids_in}
use Rattle.once.proofs.number_twice.Given as goal

abbrev pub invariant-loop-k : goal.invariant-loop-k
invariant-loop-k l = twice_in (ids_in l.table l.n 0) ≡ twice_in (ids_in l.table l.n l.k)

abbrev pub decreases-loop-k : goal.decreases-loop-k
decreases-loop-k l = l.n - l.k
