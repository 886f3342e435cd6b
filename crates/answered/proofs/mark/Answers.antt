-- `answered::mark` meets its contract: by the table of machines that was made. Assumes nothing.
use Rattle.answered.specs.laws.Marks.{marked_so, each_within, each_front}
use Rattle.std.proofs.Common.{sym, length-take-le}
use lib.ListN.{length}
use Rattle.answered.proofs.mark.Goals as goal

pub slice_bounds-write_machines-end : goal.slice_bounds-write_machines-end
slice_bounds-write_machines-end c = sym (length-take-le _ _ (each_within c.args.t.now c.machines.ensures.1 c.args.sources (length c.args.machines.now) c.min.ensures c.min-n.ensures))

pub write_machines-requires : goal.write_machines-requires
write_machines-requires c = each_front c.args.t.now c.machines.ensures.1 c.args.sources (length c.args.machines.now) c.min.ensures c.min-n.ensures

pub returns : goal.returns
returns c = marked_so c.machines.ensures.1 c.args.b.now c.args.sources c.args.at c.args.events c.args.machines.now c.args.clocks.now c.args.readings.now c.min.ensures c.min-n.ensures c.min-k.ensures c.write_machines.ensures c.events.ensures.on c.events.ensures.readings
