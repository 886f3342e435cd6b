-- `table::tag_at` meets its contract: each arm is what the definition says of the kind that was found.
-- Assumes nothing.
use mathlib.Core.Path.{refl}
use Rattle.table.specs.Table.{tag_of}
use Rattle.table.specs.laws.Types.{tag_by}
use Rattle.table.proofs.tag_at.Goals as goal

pub returns-in-Nothing : goal.returns-in-Nothing
unfolding tag_of
returns-in-Nothing c = tag_by _ _ c.kind_at.ensures c.in-Nothing.is refl

pub returns-in-Null : goal.returns-in-Null
unfolding tag_of
returns-in-Null c = tag_by _ _ c.kind_at.ensures c.in-Null.is refl

pub returns-in-Truth : goal.returns-in-Truth
unfolding tag_of
returns-in-Truth c = tag_by _ _ c.kind_at.ensures c.in-Truth.is refl

pub returns-in-Number : goal.returns-in-Number
unfolding tag_of
returns-in-Number c = tag_by _ _ c.kind_at.ensures c.in-Number.is c.number_tag.ensures

pub returns-in-String : goal.returns-in-String
unfolding tag_of
returns-in-String c = tag_by _ _ c.kind_at.ensures c.in-String.is refl

pub returns-in-Array : goal.returns-in-Array
unfolding tag_of
returns-in-Array c = tag_by _ _ c.kind_at.ensures c.in-Array.is refl

pub returns-in-Object : goal.returns-in-Object
unfolding tag_of
returns-in-Object c = tag_by _ _ c.kind_at.ensures c.in-Object.is refl
