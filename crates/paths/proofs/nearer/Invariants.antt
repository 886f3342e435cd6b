-- `paths::nearer` meets its contract: no pair leads to a clock that was passed. Assumes nothing.
use Rattle.paths.specs.laws.Search.{NoneOf}
use Rattle.paths.specs.Matrix.{pair_of}
use Rattle.paths.proofs.nearer.Given as goal

abbrev pub invariant-loop-clock : goal.invariant-loop-clock
invariant-loop-clock l = NoneOf (pair_of l.matrix l.n l.e) l.level 0 l.clock-index
