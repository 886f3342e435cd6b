-- `whole::closer` meets its contract: its tests are those of `better`, on the same readings. Assumes nothing.
use Rattle.std.proofs.Common.{to_z-of_z, arith}
use Rattle.whole.specs.Pairs.{better}
use Rattle.whole.proofs.closer.Goals as goal

pub returns-then-b-x : goal.returns-then-b-x
unfolding better
returns-then-b-x c = grind (arith, to_z-of_z)

pub returns-else-b-x : goal.returns-else-b-x
unfolding better
returns-else-b-x c = grind (arith, to_z-of_z)

pub returns-else-b-t : goal.returns-else-b-t
unfolding better
returns-else-b-t c = grind (arith, to_z-of_z)
