-- `written::lines` meets its contract: into zeros the first line is put, and after it the events' lines; or the zeros stay.
-- Assumes nothing.
use native.Mathlib.Omega.{arith}
use lib.ListN.{length}
use Rattle.written.specs.Written.{numbered}
use Rattle.written.specs.laws.Put.{put_length}
use Rattle.written.proofs.laws.Told.{all_in, none_in}
use Rattle.written.proofs.lines.Goals as goal

pub put_first-at-requires : goal.put_first-at-requires
put_first-at-requires c = omega (arith, c.if-n-out.true)

pub put_events-requires : goal.put_events-requires
put_events-requires c = omega (arith, c.if-n-out.true, c.put_first-at.ensures.0, put_length c.put_first-at.ensures.1)

pub returns-then-n-out : goal.returns-then-n-out
returns-then-n-out c =
    let l = c.args in
    let (v, (o, u)) = all_in (length l.out.now) (numbered l.answer) l.times.now l.kinds.now l.steps.now (c.fill.ensures.after (λ y h. h)) c.events_of-n.ensures c.if-n-out.true
    c.put_first-at.ensures.1 c.put_events.ensures in
    record { value = v; out_after = o; upper_bound = u }

pub returns : goal.returns
returns c =
    let l = c.args in
    let (v, (o, u)) = none_in (length l.out.now) (numbered l.answer) l.times.now l.kinds.now l.steps.now (c.fill.ensures.after (λ y h. h)) c.events_of-n.ensures c.if-n-out.false in
    record { value = v; out_after = o; upper_bound = u }
