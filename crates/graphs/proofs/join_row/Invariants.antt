-- `graphs::join_row` meets its contract: the machines passed are joined to the row (`row_more`).
use Rattle.graphs.specs.laws.Added.{Added}
use Rattle.graphs.specs.laws.Guesses.{Row}
use Rattle.graphs.proofs.join_row.Given as goal

abbrev pub invariant-loop-n : goal.invariant-loop-n
invariant-loop-n l = Added (Row l.d l.m l.n) l.initial.matrix l.matrix
