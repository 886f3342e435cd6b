-- `manifests::blanks` is safe and ends, and what it answers is at most the room. Assumes nothing.
use Rattle.std.proofs.Common.{◌≡◌, ◌≤◌, ◌-◌, length}
use Rattle.manifests.proofs.blanks.Given as goal

abbrev pub invariant-loop-n : goal.invariant-loop-n
invariant-loop-n l = (l.n ≤ 65537) × (length l.m ≡ 65537)

abbrev pub decreases-loop-n : goal.decreases-loop-n
decreases-loop-n l = 65537 - l.n
