-- `written::put_events` meets its contract: the invariant is that the lines of the first k events are put in, in at most 96 bytes each.
-- Assumes nothing.
use borrow.Author.Rules.{rules}
use native.Mathlib.Omega.{arith}
use mir.Facts.{to_z-of_z}
use mir.Val.{SFits}
use mir.Syntax.{w64}
use Rattle.written.specs.laws.Put.{put_length}
use Rattle.written.proofs.laws.Told.{told_none, told_next, told_all}
use Rattle.written.proofs.put_events.Goals as goal

pub loop-k-init : goal.loop-k-init
loop-k-init c = told_none _ _ _ (omega (arith, c.requires))

pub put_event-end-requires : goal.put_event-end-requires
put_event-end-requires c = omega (arith, c.loop-k-test.true, c.loop-k.invariant.within, put_length c.loop-k.invariant.is, c.requires)

pub loop-k-preserved : goal.loop-k-preserved
loop-k-preserved c =
    let f : SFits w64 c.told_at.result = search rules in
    let e = rw (to_z-of_z f) at c.put_event-end.ensures in
    told_next c.loop-k.invariant c.loop-k-test.true c.told_at.ensures c.told_at-in-loop-k.ensures c.told_at-in-loop-k-2.ensures e

pub returns : goal.returns
returns c = told_all c.loop-k.invariant c.loop-k-test.false
