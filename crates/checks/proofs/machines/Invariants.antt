-- `checks::machines` meets its contract: the invariant is that the ids before source j are met, each once, and that the machines before it are written.
-- Assumes nothing.
use Rattle.checks.specs.laws.Met.{Reached}
use Rattle.checks.proofs.machines.Given as goal

abbrev pub invariant-loop-j : goal.invariant-loop-j
invariant-loop-j l = Reached l.t l.ids l.n l.j l.out
