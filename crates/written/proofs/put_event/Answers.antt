-- `written::put_event` meets its contract: the line's bytes, taken out of its own memory, are put in.
-- Assumes nothing.
use native.Mathlib.Omega.{arith}
use mir.Facts.{to_z-of_z}
use Rattle.std.proofs.Common.{length-take-le}
use Rattle.written.specs.Written.{event_line}
use Rattle.written.specs.laws.Put.{put_same}
use Rattle.written.proofs.laws.Told.{line_taken, line_within}
use Rattle.written.proofs.put_event.Goals as goal

pub put-requires : goal.put-requires
put-requires c =
    let e = rw (to_z-of_z c.ranges.time) at c.event_line-n.ensures in
    let fits = line_within (event_line c.args.k c.args.time c.args.kind c.args.steps) e in
    omega (arith, length-take-le c.event_line-n.result c.event_line-n.new.out fits, fits, c.event_line-n.array_long, c.requires)

pub returns : goal.returns
returns c =
    let e = rw (to_z-of_z c.ranges.time) at c.event_line-n.ensures in
    let fits = line_within (event_line c.args.k c.args.time c.args.kind c.args.steps) e in (
      omega (arith, c.put.ensures.ends, length-take-le c.event_line-n.result c.event_line-n.new.out fits, fits, c.event_line-n.array_long),
      put_same (line_taken _ e) c.put.ensures,
    )
