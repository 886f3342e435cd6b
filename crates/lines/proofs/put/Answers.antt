-- `lines::put` meets its contract: each array has its element written behind the first k, which adds one correspondence. Assumes nothing.
use mir.Facts.{to_z-of_z}
use Rattle.lines.specs.laws.Written.{line, adds_line}
use Rattle.lines.proofs.put.Goals as goal

pub returns : goal.returns
returns c = rw (to_z-of_z c.ranges.reads, to_z-of_z c.ranges.gives) (adds_line (line c.args.p c.args.reads c.args.q c.args.gives) c.args.k c.requires.0 c.requires.1)
