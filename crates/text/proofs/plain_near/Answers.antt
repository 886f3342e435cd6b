-- `text::plain_near` meets its contract: the lowest 1 of the marks stands at the first byte that is not plain.
-- Assumes nothing.
use Rattle.text.specs.laws.Plain.{near_marks}
use Rattle.text.proofs.plain_near.Goals as goal

pub returns : goal.returns
returns c = near_marks _ _ c.requires c.plain_marks.ensures c.lowest.ensures
