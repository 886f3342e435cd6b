-- `text::closed` meets its contract: the loop keeps that the string ends where the characters from i on end; a plain byte, and a character of so many bytes as `odd_width` says, is a step
-- of `characters` and goes forward, so what is left of the text falls. Where it says 0 none stands, so `odd` tells no code point.
-- Assumes nothing.
use Prim.Native.Nat.{◌≤◌, ◌-◌}
use mathlib.Core.Path.{◌≡◌}
use lib.ListN.{length}
use Rattle.text.proofs.Ends.{ends}
use Rattle.text.proofs.closed.Given as goal

abbrev pub invariant-loop-i : goal.invariant-loop-i
invariant-loop-i l = (ends l.s l.at ≡ ends l.s l.i) × (l.i ≤ length l.s)

abbrev pub decreases-loop-i : goal.decreases-loop-i
decreases-loop-i l = length l.s - l.i
