-- `written::put_events` meets its contract: the invariant is that the lines of the first k events are put in, in at most 96 bytes each.
-- Assumes nothing.
use Rattle.written.proofs.laws.Told.{Told}
use Rattle.written.proofs.put_events.Given as goal

abbrev pub invariant-loop-k : goal.invariant-loop-k
invariant-loop-k l = Told l.times l.kinds l.steps l.initial.out l.at l.n l.k l.end l.out
