-- `lines::entry_links` meets its contract. The loop's invariant: the correspondences of the entries before number i are added. Assumes nothing.
use Prim.Native.Nat.{◌-◌, ◌≤◌}
use Rattle.lines.specs.laws.Tables.{entries_to}
use Rattle.lines.specs.laws.Written.{Adds}
use Rattle.lines.proofs.entry_links.Given as goal

abbrev pub invariant-loop-i : goal.invariant-loop-i
invariant-loop-i l = (l.i ≤ l.n) × Adds (entries_to l.s l.ix l.lookups l.t l.i) 0 l.k l.initial.a l.initial.x l.initial.c l.initial.y l.a l.x l.c l.y

abbrev pub decreases-loop-i : goal.decreases-loop-i
decreases-loop-i l = l.n - l.i
