-- `past_file` is the position past the file there: its size is 15 bits and 8 for each byte of the path. Assumes nothing.
use Rattle.sheet.proofs.Again.{size_is}
use native.Mathlib.Omega.{arith}
use Rattle.sheet.proofs.past_file.Goals as goal

pub returns : goal.returns
returns c = (size_is c.args.s.now c.head_at-h.ensures c.from.ensures (omega arith), omega arith)
