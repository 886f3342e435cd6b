-- `paths::follow` meets its contract. The invariant is `Walked`: what is written, and the steps left from where the walk stands, are the steps from c.
use native.Mathlib.Omega.{arith}
use Rattle.paths.proofs.Walk.{walk_start, walk_more, walk_done}
use Rattle.paths.proofs.follow.Goals as goal

pub loop-s-init : goal.loop-s-init
loop-s-init c = walk_start c.requires.c_lt_clocks.0

pub bounds-out-s : goal.bounds-out-s
bounds-out-s c = omega (arith, c.loop-s.invariant.whole)

pub loop-s-preserved : goal.loop-s-preserved
loop-s-preserved c =
    let w = c.loop-s.invariant in
    rw c.from-at.ensures (walk_more w (omega arith) c.requires.c_lt_clocks.1 (c.requires.by_index c.loop-s.at w.inside))

pub returns : goal.returns
returns c = walk_done c.loop-s.invariant (omega arith)
