-- `by_bytes` gives the number of w bits. Invariant: v is the number of the first k bits; a turn joins the next n to them (`number_append`).
-- The measure is the bits left. Assumes nothing.
use mathlib.Core.Path.{◌≡◌}
use Prim.Native.Nat.{◌-◌, ◌≤◌}
use Rattle.bits.specs.Bits.{number}
use Rattle.bits.proofs.by_bytes.Given as goal

abbrev pub invariant-loop-k : goal.invariant-loop-k
invariant-loop-k l = (l.k ≤ l.w) × (l.v ≡ number l.s l.at l.k)

abbrev pub decreases-loop-k : goal.decreases-loop-k
decreases-loop-k l = l.w - l.k
