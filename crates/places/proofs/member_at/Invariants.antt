-- `places::member_at` meets its contract. The loop's invariant: what was counted, with the members that are left, gives the answer for the object. Where the rest is no object the answer is none.
-- Assumes nothing.
use Prim.Native.Nat.{◌-◌}
use lib.ListN.{length}
use Rattle.places.proofs.Listed.{Counting}
use Rattle.places.proofs.member_at.Given as goal

abbrev pub invariant-loop-a : goal.invariant-loop-a
invariant-loop-a l = Counting l.s l.at l.name l.m l.i

abbrev pub decreases-loop-a : goal.decreases-loop-a
decreases-loop-a l = length l.s - l.i
