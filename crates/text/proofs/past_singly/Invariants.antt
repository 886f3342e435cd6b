-- `text::past_singly` meets its contract: the loop keeps that the run of plain bytes from `at` ends where the one from i does, and stops where a byte is not plain.
-- Assumes nothing.
use Rattle.text.specs.laws.Plain.{past_own}
use mathlib.Core.Path.{◌≡◌}
use Prim.Native.Nat.{◌≤◌, ◌-◌}
use Rattle.text.proofs.past_singly.Given as goal

abbrev pub invariant-loop-i : goal.invariant-loop-i
invariant-loop-i l = (past_own l.s l.at ≡ past_own l.s l.i) × (l.i ≤ l.end)

abbrev pub decreases-loop-i : goal.decreases-loop-i
decreases-loop-i l = l.end - l.i
