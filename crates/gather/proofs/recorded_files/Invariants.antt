-- `recorded_files`: the invariant is that the snapshots before number i have set their files' flags. Assumes nothing.
use Rattle.gather.proofs.Recorded.{Noted}
use Prim.Native.Nat.{◌-◌, ◌≤◌}
use Rattle.gather.proofs.recorded_files.Given as goal

abbrev pub invariant-loop-i : goal.invariant-loop-i
invariant-loop-i l = (l.i ≤ l.t.snapshots.count) × Noted l.b l.t l.out l.i

abbrev pub decreases-loop-i : goal.decreases-loop-i
decreases-loop-i l = l.t.snapshots.count - l.i
