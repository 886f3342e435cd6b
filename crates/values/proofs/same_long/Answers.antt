-- `values::same_long` meets its contract: what is left of the string is the text where it ends with the text, and blocks of plain bytes that are the same change nothing in where it ends.
-- Assumes nothing.
use Rattle.values.proofs.Compare.{same_turns}
use Rattle.values.proofs.same_long.Goals as goal

pub returns : goal.returns
returns c = same_turns _ _ _ c.alike_blocks-n.ensures c.begun_rest.ensures
