-- `survey::clocks_kept` meets its contract: the numbers are those of the row and of what was kept of `sync_to`, which were 0 before.
-- Assumes nothing.
use Rattle.survey.proofs.Entries.{clocks_told}
use Rattle.survey.proofs.clocks_kept.Goals as goal

pub returns : goal.returns
returns c = λ n. clocks_told _ _ (c.clocks_row-own.ensures n)
