-- `owned_code`: two numbers for each answer; a split file is asked for the id. Assumes nothing.
use Rattle.gather.proofs.Steps.{owned_nobody, owned_whole, owned_split}
use Rattle.meant.specs.Meant.{part_of}
use Rattle.gather.proofs.owned_code.Goals as goal

pub returns-in-Nobody : goal.returns-in-Nobody
returns-in-Nobody c = owned_nobody c.owned_of.ensures (part_of c.args.s.now c.args.ix.now c.args.lookups.now c.args.e c.args.id) c.in-Nobody.is

pub returns-in-Whole : goal.returns-in-Whole
returns-in-Whole c = owned_whole c.owned_of.ensures (part_of c.args.s.now c.args.ix.now c.args.lookups.now c.args.e c.args.id) c.in-Whole.is c.small.ensures

pub returns-in-Split : goal.returns-in-Split
returns-in-Split c = owned_split c.owned_of.ensures (part_of c.args.s.now c.args.ix.now c.args.lookups.now c.args.e c.args.id) c.in-Split.is c.part_of.ensures c.part_code.ensures
