-- `named::same_by_print` meets its contract: texts with the print 0 are both empty; with another print neither is, so both are strings and these decide. Assumes nothing.
use Rattle.prints.specs.laws.Prints.{same_none, same_some}
use Rattle.named.proofs.same_by_print.Goals as goal

pub returns-then-shared-eq0 : goal.returns-then-shared-eq0
returns-then-shared-eq0 c = same_none _ _ _ c.requires.0 c.requires.1 c.if-shared-eq0.true

pub returns : goal.returns
returns c = same_some _ _ _ c.requires.0 c.if-shared-eq0.false c.same_texts.ensures
