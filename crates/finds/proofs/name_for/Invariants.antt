-- `finds::name_for` meets its contract: the invariant is that the items from number k on decide.
-- Assumes nothing.
use mathlib.Core.Path.{◌≡◌}
use Prim.Native.Nat.{◌-◌, ◌≤◌}
use Rattle.finds.specs.laws.Ids.{name_from}
use Rattle.finds.specs.Finds.{name_for}
use Rattle.finds.proofs.name_for.Given as goal

abbrev pub invariant-loop-k : goal.invariant-loop-k
invariant-loop-k l = (l.k ≤ l.n) × (name_for l.s l.ix l.i l.id ≡ name_from l.s l.ix l.i l.id l.k)

abbrev pub decreases-loop-k : goal.decreases-loop-k
decreases-loop-k l = l.n - l.k
