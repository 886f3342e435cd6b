-- `batch::skip` is safe and ends: the count of turns falls.
-- Assumes nothing.
use Rattle.batch.proofs.skip.Given as goal

abbrev pub decreases-loop-left : goal.decreases-loop-left
decreases-loop-left g l = l.left
