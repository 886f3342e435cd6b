-- `text::literal` meets its contract: the loop keeps that all of w at the start is what is left of w, from its place k on, at i.
-- Assumes nothing.
use Prim.Native.Nat.{◌-◌, ◌≤◌}
use lib.ListN.{length, drop}
use Rattle.text.specs.Reading.{word}
use mathlib.Core.Path.{◌≡◌}
use Rattle.text.proofs.literal.Given as goal

abbrev pub invariant-loop-k : goal.invariant-loop-k
invariant-loop-k l = (l.k ≤ length l.w) × (word l.w l.s l.at ≡ word (drop l.k l.w) l.s l.i)

abbrev pub decreases-loop-k : goal.decreases-loop-k
decreases-loop-k l = length l.w - l.k
