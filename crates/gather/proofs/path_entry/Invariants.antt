-- `path_entry` copies the path and looks it up. The invariant: the first i bytes are those that stand in the sheet from the path on. As i goes by eights,
-- the last word ends within the 256 bytes. Assumes nothing.
use Rattle.records.specs.Layout.{bytes_at}
use lib.ListN.{length, take}
use Prim.Native.Nat.{◌+◌, ◌-◌, ◌%◌, ◌≤◌}
use mathlib.Core.Path.{◌≡◌}
use Rattle.gather.proofs.path_entry.Given as goal

abbrev pub invariant-loop-i : goal.invariant-loop-i
invariant-loop-i l = (l.i % 8 ≡ 0) × (l.n ≤ 255) × (length l.path ≡ 256) × (take l.i l.path ≡ bytes_at l.b (l.at + 15) l.i)

abbrev pub decreases-loop-i : goal.decreases-loop-i
decreases-loop-i l = l.n - l.i
