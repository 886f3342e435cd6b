-- `text::blank` meets its contract: the whitespace left at i is that at the start, which `skip` passes over byte by byte; so the loop keeps `skip s at ≡ skip s i`.
-- Assumes nothing.
use lib.ListN.{length}
use Prim.Native.Nat.{◌-◌}
use Rattle.text.specs.Class.{skip}
use mathlib.Core.Path.{◌≡◌}
use Rattle.text.proofs.blank.Given as goal

abbrev pub invariant-loop-i : goal.invariant-loop-i
invariant-loop-i l = skip l.s l.at ≡ skip l.s l.i

abbrev pub decreases-loop-i : goal.decreases-loop-i
decreases-loop-i l = length l.s - l.i
