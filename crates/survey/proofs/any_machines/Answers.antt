-- `survey::any_machines` meets its contract: without an item the numbers to put are zeros, which are there; otherwise `machines` tells. Assumes nothing.
use Rattle.survey.proofs.Items.{machines_none}
use Rattle.survey.proofs.any_machines.Goals as goal

pub returns-then-end-ne0 : goal.returns-then-end-ne0
returns-then-end-ne0 c = λ n. machines_none _ _ _ c.requires.1 c.requires.2 c.requires.0 (c.bare-end.ensures n)

pub machines-requires : goal.machines-requires
machines-requires c = c.requires

pub returns : goal.returns
returns c = λ n. c.machines.ensures n
