-- `listed::no_name` meets its contract: where the value is there, the length is compared with both bounds. Assumes nothing.
use mathlib.Core.Path.{◌∙◌}
use borrow.Author.Tests.{lt-ltb, le-ltb}
use Rattle.listed.specs.laws.Sized.{outer_none, outer_some, first_holds, first_fails}
use Rattle.listed.proofs.no_name.Goals as goal

pub returns-then-outer-eq0 : goal.returns-then-outer-eq0
returns-then-outer-eq0 c = outer_none _ c.if-outer-eq0.true

pub returns-then-length-lt1 : goal.returns-then-length-lt1
returns-then-length-lt1 c = first_holds _ (lt-ltb _ _ c.if-length-lt1.true) ∙ outer_some _ c.if-outer-eq0.false

pub returns : goal.returns
returns c = first_fails _ (le-ltb _ _ c.if-length-lt1.false) ∙ outer_some _ c.if-outer-eq0.false
