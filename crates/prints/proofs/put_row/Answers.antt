-- `prints::put_row` meets its contract: the invariant is that the bytes of the row up to the one that is next are put. Those that are left when the loop ends have no room. Assumes nothing.
use mathlib.Core.Path.{refl}
use native.Mathlib.Omega.{arith}
use borrow.Author.Rules.{rules}
use Rattle.prints.specs.laws.Fronts.{row_none, row_more, row_all}
use Rattle.prints.proofs.put_row.Goals as goal

pub loop-i-init : goal.loop-i-init
loop-i-init c = (search rules, row_none _ _ _ _)

pub loop-i-preserved : goal.loop-i-preserved
loop-i-preserved c = (search rules, row_more _ _ _ _ _ c.loop-i.invariant.1 (omega (arith, c.room-k.ensures.fits)) (omega (arith, c.room-k.ensures.few)))

pub returns : goal.returns
returns c = row_all _ _ _ _ _ c.loop-i.invariant.1 c.room-k.ensures c.loop-i.invariant.0 c.loop-i-test.false c.requires.1 c.requires.2 refl
