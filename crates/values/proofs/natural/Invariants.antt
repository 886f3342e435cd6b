-- `values::natural` meets its contract. The loop's invariant: the number so far, continued by the digits that are left, is the whole number, both cut at the greatest of 64 bits. A number cut there stays there, since digits never make it less.
-- Assumes nothing.
use mathlib.Core.Path.{◌≡◌}
use Prim.Native.Nat.{◌-◌, ◌<◌, ◌^◌}
use Prim.Native.Nat.{◌-◌}
use Rattle.text.specs.Reading.{part}
use Rattle.values.proofs.Digits.{capped}
use Rattle.values.specs.Integer.{decimal}
use Rattle.values.proofs.natural.Given as goal

abbrev pub invariant-loop-i : goal.invariant-loop-i
invariant-loop-i l = (l.v < 2 ^ 64) × (capped (decimal l.v (part l.s l.i l.end)) ≡ capped (decimal 0 (part l.s l.from l.end)))

abbrev pub decreases-loop-i : goal.decreases-loop-i
decreases-loop-i l = l.end - l.i
