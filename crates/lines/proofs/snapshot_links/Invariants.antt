-- `lines::snapshot_links` meets its contract. The loop's invariant: the correspondences of the snapshots before number i are added. Assumes nothing.
use mathlib.Core.List.{List}
use Prim.Native.Nat.{ℕ, ◌-◌, ◌≤◌}
use Rattle.lines.specs.laws.Tables.{snapshots_to}
use Rattle.lines.specs.laws.Written.{Adds}
use Rattle.lines.proofs.snapshot_links.Given as goal

abbrev pub invariant-loop-i : goal.invariant-loop-i
invariant-loop-i l = (l.i ≤ l.m) × (l.m ≤ 256) × ((t : List ℕ) → Adds (snapshots_to t l.machines l.b l.base l.i) l.from l.k l.initial.a l.initial.x l.initial.c l.initial.y l.a l.x l.c l.y)

abbrev pub decreases-loop-i : goal.decreases-loop-i
decreases-loop-i l = l.m - l.i
