-- `starts_with`: the invariant is that the first i bytes of the text are those of the path. A byte that differs tells the two apart. Assumes nothing.
use mathlib.Core.Path.{◌≡◌}
use Prim.Native.Nat.{ℕ, ◌-◌, ◌≤◌, ◌<◌}
use lib.ListN.{length, get_or}
use Rattle.gather.proofs.starts_with.Given as goal

abbrev pub invariant-loop-i : goal.invariant-loop-i
invariant-loop-i l = (l.i ≤ length l.path) × ((k : ℕ) → k < l.i → get_or l.text k 0 ≡ get_or l.path k 0)

abbrev pub decreases-loop-i : goal.decreases-loop-i
decreases-loop-i l = length l.path - l.i
