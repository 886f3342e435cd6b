-- `graphs::join_links` meets its contract: the pairs of the links passed are joined (`Linked`).
use Rattle.graphs.specs.laws.Matrix.{Linked}
use Rattle.graphs.proofs.join_links.Given as goal

abbrev pub invariant-loop-k : goal.invariant-loop-k
invariant-loop-k l = Linked l.a l.x l.b l.y l.initial.matrix l.matrix l.k
