-- `text::past_digits` meets its contract: the loop keeps `run digit s at ≡ run digit s i`, and stops at the first byte that is no digit.
-- Assumes nothing.
use lib.ListN.{length}
use Prim.Native.Nat.{◌-◌}
use Rattle.text.specs.Class.{digit}
use Rattle.text.specs.Reading.{run}
use mathlib.Core.Path.{◌≡◌}
use Rattle.text.proofs.past_digits.Given as goal

abbrev pub invariant-loop-i : goal.invariant-loop-i
invariant-loop-i l = run digit l.s l.at ≡ run digit l.s l.i

abbrev pub decreases-loop-i : goal.decreases-loop-i
decreases-loop-i l = length l.s - l.i
