-- `listed::same_slots` meets its contract: the invariant is that the first k bytes of the two slots are the same. It holds of the bytes that were passed by blocks. Assumes nothing.
use mathlib.Core.Path.{◌≡◌}
use Prim.Native.Nat.{ℕ, ◌+◌, ◌-◌, ◌≤◌, ◌<◌}
use lib.ListN.{get_or}
use Rattle.listed.proofs.same_slots.Given as goal

abbrev pub invariant-loop-k : goal.invariant-loop-k
invariant-loop-k l = (l.k ≤ l.n) × ((m : ℕ) → m < l.k → get_or l.texts (l.i + m) 0 ≡ get_or l.texts (l.j + m) 0)

abbrev pub decreases-loop-k : goal.decreases-loop-k
decreases-loop-k l = l.n - l.k
