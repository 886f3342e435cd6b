-- `text::past_blocks` meets its contract: the loop keeps that the run of plain bytes from `at` ends where the one from i does, and a block of plain bytes keeps it so.
-- Assumes nothing.
use Rattle.text.specs.laws.Plain.{past_own}
use mathlib.Core.Path.{◌≡◌}
use Prim.Native.Nat.{◌≤◌, ◌-◌}
use lib.ListN.{length}
use Rattle.text.proofs.past_blocks.Given as goal

abbrev pub invariant-loop-i : goal.invariant-loop-i
invariant-loop-i l = (past_own l.s l.at ≡ past_own l.s l.i) × (l.i ≤ length l.s)

abbrev pub decreases-loop-i : goal.decreases-loop-i
decreases-loop-i l = length l.s - l.i
