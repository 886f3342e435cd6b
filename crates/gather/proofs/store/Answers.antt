-- `store`: the invariant is that the first j numbers of the row are put in. Assumes nothing.
use Rattle.index.proofs.laws.Put.{put_none, put_next, put_same}
use lib.Seq.{take_all}
use native.Mathlib.Omega.{arith}
use Rattle.gather.proofs.store.Goals as goal

pub loop-j-init : goal.loop-j-init
loop-j-init c = (omega arith, put_none _ _ (omega (arith, c.requires.0, c.requires.1)))

pub overflow_add-out : goal.overflow_add-out
overflow_add-out c = omega arith

pub bounds-out-base : goal.bounds-out-base
bounds-out-base c = omega arith

pub loop-j-preserved : goal.loop-j-preserved
loop-j-preserved c = (omega arith, put_next _ _ c.loop-j.invariant.1 c.loop-j-test.true (omega (arith, c.requires.0, c.requires.1)))

pub returns : goal.returns
returns c = put_same (take_all _ _ c.loop-j-test.false) c.loop-j.invariant.1
