-- `listed::size_broken` meets its contract: where there is a text, its length is compared with both bounds. Assumes nothing.
use Rattle.listed.specs.laws.Sizes.{size_none, size_short, size_most}
use Rattle.listed.proofs.size_broken.Goals as goal

pub returns-then-p-eq0 : goal.returns-then-p-eq0
returns-then-p-eq0 c = size_none _ _ c.if-p-eq0.true

pub returns-then-length-lt1 : goal.returns-then-length-lt1
returns-then-length-lt1 c = size_short _ _ c.if-p-eq0.false c.if-length-lt1.true

pub returns : goal.returns
returns c = size_most _ _ c.if-p-eq0.false c.if-length-lt1.false
