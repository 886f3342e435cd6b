-- `table::look` meets its contract: the invariant is that the object's lines that were passed don't have the name. No two of them have the same name. The constant has
-- the numbers of the names of the lines.
-- Assumes nothing.
use Prim.Native.Nat.{◌-◌}
use Rattle.table.specs.laws.Names.{name_at}
use Rattle.table.specs.laws.Looking.{Looked}
use Rattle.table.proofs.look.Given as goal

abbrev pub invariant-loop-line : goal.invariant-loop-line
invariant-loop-line l = Looked l.object (name_at l.name) l.line

abbrev pub decreases-loop-line : goal.decreases-loop-line
decreases-loop-line l = l.past - l.line
