-- `manifests::each` is safe and ends: each turn passes a line. Assumes nothing.
use Rattle.std.proofs.Common.{◌-◌, length}
use Rattle.manifests.proofs.each.Given as goal

abbrev pub decreases-loop-at : goal.decreases-loop-at
decreases-loop-at g l = length l.s - l.at
