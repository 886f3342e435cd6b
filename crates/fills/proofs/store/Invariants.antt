-- `fills::store` meets its contract: the invariant is that the first j numbers of the row are put in.
-- Assumes nothing.
use Prim.Native.Nat.{◌-◌, ◌≤◌}
use lib.ListN.{length, take}
use Rattle.index.proofs.laws.Put.{Put}
use Rattle.fills.proofs.store.Given as goal

abbrev pub invariant-loop-j : goal.invariant-loop-j
invariant-loop-j l = (l.j ≤ length l.row) × Put l.initial.ix l.base (take l.j l.row) l.ix

abbrev pub decreases-loop-j : goal.decreases-loop-j
decreases-loop-j l = length l.row - l.j
