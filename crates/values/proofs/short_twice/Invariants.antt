-- `values::short_twice` meets its contract: the loop keeps that the n bytes passed can be passed. With the same letter after it each backslash begins the same escape, so both are read as one character, and two bytes more can be.
-- Assumes nothing.
use Prim.Native.Nat.{◌+◌, ◌-◌}
use lib.ListN.{length}
use Rattle.values.specs.laws.Raws.{Passed}
use Rattle.values.proofs.short_twice.Given as goal

abbrev pub invariant-loop-i : goal.invariant-loop-i
invariant-loop-i l = Passed l.s l.i l.k l.n

abbrev pub decreases-loop-i : goal.decreases-loop-i
decreases-loop-i l = length l.s - (l.i + l.n)
