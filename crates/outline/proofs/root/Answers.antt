-- `outline::root` meets its contract: it goes by the first member, as the definition does. Assumes nothing.
use Rattle.outline.proofs.Steps.{root_some, root_none}
use Rattle.outline.proofs.root.Goals as goal

pub returns-in-Named : goal.returns-in-Named
returns-in-Named c = root_some _ c.blank.ensures c.first_member.ensures c.in-Named.is c.alone.ensures

pub returns-in-Last : goal.returns-in-Last
returns-in-Last c = root_none _ c.blank.ensures c.first_member.ensures c.in-Last.is
