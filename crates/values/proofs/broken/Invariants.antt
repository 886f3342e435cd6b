-- `values::broken` meets its contract. The loop's invariant: what is left has a point or an e exactly where the whole has.
-- Assumes nothing.
use mathlib.Core.Path.{◌≡◌}
use Prim.Native.Nat.{◌-◌}
use Rattle.text.specs.Reading.{part}
use Rattle.values.specs.Integer.{broken as brokenOf}
use Rattle.values.proofs.broken.Given as goal

abbrev pub invariant-loop-i : goal.invariant-loop-i
invariant-loop-i l = brokenOf (part l.s l.i l.end) ≡ brokenOf (part l.s l.from l.end)

abbrev pub decreases-loop-i : goal.decreases-loop-i
decreases-loop-i l = l.end - l.i
