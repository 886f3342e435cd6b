-- `listed::keep` meets its contract: the invariant is that the first k bytes are put in, from the start of the slot on. Assumes nothing.
use native.Mathlib.Omega.{arith}
use lib.Seq.{take_all}
use Rattle.index.proofs.laws.Put.{put_none, put_next, put_same}
use Rattle.listed.specs.laws.Slots.{put_kept}
use Rattle.listed.proofs.keep.Goals as goal

pub loop-k-init : goal.loop-k-init
loop-k-init c = (omega arith, put_none _ _ (omega (arith, c.requires.0, c.requires.1)))

pub overflow_add-texts : goal.overflow_add-texts
overflow_add-texts c = omega arith

pub bounds-texts-base : goal.bounds-texts-base
bounds-texts-base c = omega arith

pub loop-k-preserved : goal.loop-k-preserved
loop-k-preserved c = (omega arith, put_next _ _ c.loop-k.invariant.1 (omega (arith, c.loop-k-test.true, c.requires.2)) (omega (arith, c.requires.0, c.requires.1, c.requires.2)))

pub returns : goal.returns
returns c = put_kept _ c.requires.1 c.requires.2 (put_same (take_all c.loop-k.k c.args.text.now (omega (arith, c.loop-k-test.false, c.requires.2))) c.loop-k.invariant.1)
