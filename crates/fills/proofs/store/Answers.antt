-- `fills::store` meets its contract: the invariant is that the first j numbers of the row are put in.
-- Assumes nothing.
use native.Mathlib.Omega.{arith}
use lib.Seq.{take_all}
use Rattle.index.proofs.laws.Put.{put_none, put_next, put_same}
use Rattle.fills.proofs.store.Goals as goal

pub loop-j-init : goal.loop-j-init
loop-j-init c = (omega arith, put_none _ _ (omega (arith, c.requires.0, c.requires.1)))

pub overflow_add-ix : goal.overflow_add-ix
overflow_add-ix c = omega arith

pub bounds-ix-base : goal.bounds-ix-base
bounds-ix-base c = omega arith

pub loop-j-preserved : goal.loop-j-preserved
loop-j-preserved c = (omega arith, put_next _ _ c.loop-j.invariant.1 c.loop-j-test.true (omega (arith, c.requires.0, c.requires.1)))

pub returns : goal.returns
returns c = put_same (take_all _ _ c.loop-j-test.false) c.loop-j.invariant.1
