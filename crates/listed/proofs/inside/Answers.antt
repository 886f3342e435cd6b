-- `listed::inside` meets its contract: by cases of the outer position. Assumes nothing.
use Rattle.listed.specs.laws.Sizes.{inside_none, inside_some}
use Rattle.listed.proofs.inside.Goals as goal

pub returns-then-outer-eq0 : goal.returns-then-outer-eq0
returns-then-outer-eq0 c = inside_none _ c.if-outer-eq0.true

pub returns-else-outer-eq0 : goal.returns-else-outer-eq0
returns-else-outer-eq0 c = inside_some _ c.if-outer-eq0.false
