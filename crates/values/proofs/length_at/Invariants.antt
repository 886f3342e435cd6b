-- `values::length_at` meets its contract. The loop keeps that the bytes counted, with those of what is left of the string, are its length. A character takes at least as many bytes of the text as it has in UTF-8, so the count never passes the position.
-- Assumes nothing.
use mathlib.Core.Path.{◌≡◌}
use Prim.Native.Nat.{◌≤◌, ◌-◌}
use lib.ListN.{length}
use Rattle.values.specs.Strings.{length_at, rest}
use Rattle.values.proofs.Compare.{length_from}
use Rattle.values.proofs.length_at.Given as goal

abbrev pub invariant-loop-n : goal.invariant-loop-n
invariant-loop-n l = (l.n ≤ l.i) × (length_from l.n (rest l.s l.i) ≡ length_at l.s l.at)

abbrev pub decreases-loop-n : goal.decreases-loop-n
decreases-loop-n l = length l.s - l.i
