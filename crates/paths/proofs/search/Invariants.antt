-- `paths::search` meets its contract. The invariant is `State` of `specs/laws/Search.antt`, which each level keeps; when a level is empty, the arrays hold all distances and next clocks (`table_done`). The measure counts the clocks that do not stand in the queue before the level. Assumes nothing.
use Prim.Native.Nat.{◌-◌}
use Rattle.numbers.specs.Numbers.{clocks}
use Rattle.paths.specs.laws.Search.{State}
use Rattle.paths.specs.laws.Graph.{Whole}
use Rattle.paths.specs.Matrix.{held}
use Rattle.paths.proofs.search.Given as goal

abbrev pub invariant-loop-from : goal.invariant-loop-from
invariant-loop-from l = State (held l.matrix l.n l.target) clocks l.found.dist l.found.next l.rest l.left l.queue l.from l.end l.k × Whole l.matrix l.n l.target

abbrev pub decreases-loop-from : goal.decreases-loop-from
decreases-loop-from l = l.n - l.from
