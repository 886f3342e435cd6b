-- `paths::level` meets its contract. The invariant is `Turn` of `proofs/Levels.antt`: of the rest the first d have been looked at; those at k pairs are noted and stand in the queue, and those that stay stand at the front. The mask stays that of the level, since the queue grows behind it. Assumes nothing.
use Rattle.numbers.specs.Numbers.{clocks}
use Rattle.paths.specs.laws.Search.{Marked}
use Rattle.paths.specs.Matrix.{held}
use Rattle.paths.proofs.Levels.{Turn}
use Rattle.paths.proofs.level.Given as goal

abbrev pub invariant-loop-d : goal.invariant-loop-d
invariant-loop-d l =
    Turn (held l.matrix l.n l.target) clocks l.initial.rest l.left l.found.dist l.found.next l.rest l.queue l.from l.end l.tail l.k l.kept l.d
    × Marked l.mask l.queue l.from l.end
