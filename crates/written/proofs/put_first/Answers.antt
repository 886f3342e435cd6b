-- `written::put_first` meets its contract: the line's bytes, taken out of its own memory, are put in.
-- Assumes nothing.
use native.Mathlib.Omega.{arith}
use Rattle.std.proofs.Common.{length-take-le}
use Rattle.written.specs.Written.{first_line, numbered}
use Rattle.written.specs.laws.Put.{put_same}
use Rattle.written.proofs.laws.Told.{line_taken, line_within}
use Rattle.written.proofs.put_first.Goals as goal

pub put-requires : goal.put-requires
put-requires c =
    let fits = line_within (first_line (numbered c.args.answer)) c.first_line-n.ensures in
    omega (arith, length-take-le c.first_line-n.result c.first_line-n.new.out fits, fits, c.first_line-n.array_long, c.requires)

pub returns : goal.returns
returns c =
    let fits = line_within (first_line (numbered c.args.answer)) c.first_line-n.ensures in (
      omega (arith, c.put.ensures.ends, length-take-le c.first_line-n.result c.first_line-n.new.out fits, fits, c.first_line-n.array_long),
      put_same (line_taken _ c.first_line-n.ensures) c.put.ensures,
    )
