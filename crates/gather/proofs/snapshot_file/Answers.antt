-- `snapshot_file`: from the snapshot to its source, from there to the file. Assumes nothing.
use Rattle.gather.proofs.Steps.{snapshot_is}
use Rattle.gather.proofs.snapshot_file.Goals as goal

pub returns : goal.returns
returns c = snapshot_is c.args.b.now c.args.t c.args.i c.snapshot_at-n.ensures c.long.ensures.0 c.source_at-x.ensures c.long-2.ensures.0
