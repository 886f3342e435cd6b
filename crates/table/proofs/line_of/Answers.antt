-- `table::line_of` meets its contract: the line of the known name that the string is, or none.
-- Assumes nothing.
use native.Mathlib.Omega.{arith}
use Rattle.table.specs.laws.Looking.{line_named, line_none}
use Rattle.table.proofs.line_of.Goals as goal

pub look-requires : goal.look-requires
look-requires c = omega (arith, c.name_of-name.ensures.few, c.if-name-eq13.false)

pub returns-then-name-eq13 : goal.returns-then-name-eq13
returns-then-name-eq13 c = line_none c.name_of-name.ensures c.if-name-eq13.true

pub returns-else-name-eq13 : goal.returns-else-name-eq13
returns-else-name-eq13 c = line_named c.name_of-name.ensures (omega (arith, c.name_of-name.ensures.few, c.if-name-eq13.false)) c.look.ensures
