-- `paths::name_selves` meets its contract. The invariant is `Named`: the elements passed name themselves. Assumes nothing.
use Rattle.paths.proofs.Table.{Named}
use Rattle.paths.proofs.name_selves.Given as goal

abbrev pub invariant-loop-c : goal.invariant-loop-c
invariant-loop-c l = Named l.next l.c
