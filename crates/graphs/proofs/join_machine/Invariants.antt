-- `graphs::join_machine` meets its contract: the domains passed are joined (`part_more`).
use Prim.Native.Nat.{◌+◌, ◌-◌, ◌*◌}
use Rattle.graphs.specs.laws.Added.{Added}
use Rattle.graphs.specs.laws.Guesses.{Part}
use Rattle.graphs.proofs.join_machine.Given as goal

abbrev pub invariant-loop-d : goal.invariant-loop-d
invariant-loop-d l = Added (Part l.g (6 * l.m) (6 * l.m + l.d - 1)) l.initial.matrix l.matrix
