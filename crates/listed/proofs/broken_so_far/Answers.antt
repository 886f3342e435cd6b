-- `listed::broken_so_far` meets its contract: what an entry tells counts, and what is told past the last does not. Assumes nothing.
use Rattle.listed.specs.laws.Judged.{counts, counts_not}
use Rattle.listed.proofs.broken_so_far.Goals as goal

pub returns-then-i-n : goal.returns-then-i-n
returns-then-i-n c = counts c.args.broken c.args.here c.if-i-n.true c.either.ensures

pub returns : goal.returns
returns c = counts_not c.args.broken c.args.here c.if-i-n.false
