-- `graphs::join_files` meets its contract: the files passed are joined (`free_more`).
use Rattle.graphs.specs.laws.Added.{Added}
use Rattle.graphs.specs.laws.Guesses.{Free}
use Rattle.graphs.proofs.join_files.Given as goal

abbrev pub invariant-loop-f : goal.invariant-loop-f
invariant-loop-f l = Added (Free l.pinned l.trace 0 l.f) l.initial.matrix l.matrix
