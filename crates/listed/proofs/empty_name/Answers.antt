-- `listed::empty_name` meets its contract: where the value is there, the length is asked. Assumes nothing.
use Rattle.listed.specs.laws.Sized.{outer_none, outer_some}
use Rattle.listed.proofs.empty_name.Goals as goal

pub returns-then-outer-eq0 : goal.returns-then-outer-eq0
returns-then-outer-eq0 c = outer_none _ c.if-outer-eq0.true

pub returns-else-outer-eq0 : goal.returns-else-outer-eq0
returns-else-outer-eq0 c = outer_some _ c.if-outer-eq0.false
