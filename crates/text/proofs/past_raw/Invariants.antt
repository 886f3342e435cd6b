-- `text::past_raw` meets its contract: the loop keeps `past_raw s at ≡ past_raw s i`; a run of plain bytes, and a character of several bytes, are characters that it passes.
-- Assumes nothing.
use Rattle.text.specs.Raw.{past_raw}
use mathlib.Core.Path.{◌≡◌}
use Prim.Native.Nat.{◌-◌}
use lib.ListN.{length}
use Rattle.text.proofs.past_raw.Given as goal

abbrev pub invariant-loop-i : goal.invariant-loop-i
invariant-loop-i l = past_raw l.s l.at ≡ past_raw l.s l.i

abbrev pub decreases-loop-i : goal.decreases-loop-i
decreases-loop-i l = length l.s - l.i
