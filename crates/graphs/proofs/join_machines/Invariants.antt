-- `graphs::join_machines` meets its contract: the machines passed are joined (`part_more`).
use Prim.Native.Nat.{◌*◌}
use Rattle.graphs.specs.laws.Added.{Added}
use Rattle.graphs.specs.laws.Guesses.{Part}
use Rattle.graphs.proofs.join_machines.Given as goal

abbrev pub invariant-loop-m : goal.invariant-loop-m
invariant-loop-m l = Added (Part l.g 0 (6 * l.m)) l.initial.matrix l.matrix
