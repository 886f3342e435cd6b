-- `store`: the invariant is that the first j numbers of the row are put in. Assumes nothing.
use Rattle.index.proofs.laws.Put.{Put}
use lib.ListN.{length, take}
use Prim.Native.Nat.{◌-◌, ◌≤◌}
use Rattle.gather.proofs.store.Given as goal

abbrev pub invariant-loop-j : goal.invariant-loop-j
invariant-loop-j l = (l.j ≤ length l.row) × Put l.initial.out l.base (take l.j l.row) l.out

abbrev pub decreases-loop-j : goal.decreases-loop-j
decreases-loop-j l = length l.row - l.j
