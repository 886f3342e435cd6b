-- `table::number_tag` meets its contract: each arm is what the definition says of the integer that was found.
-- Assumes nothing.
use mathlib.Core.Path.{refl}
use Rattle.table.specs.Table.{tag_of_number}
use Rattle.table.specs.laws.Types.{number_by}
use Rattle.table.proofs.number_tag.Goals as goal

pub returns-in-In : goal.returns-in-In
unfolding tag_of_number
returns-in-In c = number_by c.integer_at.ensures c.in-In.is refl

pub returns-in-Below : goal.returns-in-Below
unfolding tag_of_number
returns-in-Below c = number_by c.integer_at.ensures c.in-Below.is refl

pub returns-in-Above : goal.returns-in-Above
unfolding tag_of_number
returns-in-Above c = number_by c.integer_at.ensures c.in-Above.is refl

pub returns-in-None : goal.returns-in-None
unfolding tag_of_number
returns-in-None c = number_by c.integer_at.ensures c.in-None.is refl
