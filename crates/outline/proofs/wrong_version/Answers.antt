-- `outline::wrong_version` meets its contract: the name is compared, then the value. Assumes nothing.
use Rattle.outline.proofs.Steps.{wrong_name, wrong_value}
use Rattle.outline.proofs.wrong_version.Goals as goal

pub returns-then-not-same_as : goal.returns-then-not-same_as
returns-then-not-same_as c = wrong_name _ _ _ c.same_as.ensures c.if-not-same_as.true

pub returns : goal.returns
returns c = wrong_value _ _ _ c.same_as.ensures c.if-not-same_as.false c.not_one_at.ensures
