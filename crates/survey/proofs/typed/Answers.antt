-- `survey::typed` meets its contract: the value is read with the levels given, and its type is asked. Assumes nothing.
use mathlib.Core.Path.{refl}
use Rattle.table.specs.laws.Types.{tag_told}
use Rattle.survey.proofs.Stepping.{fits_type}
use Rattle.survey.proofs.typed.Goals as goal

pub returns-then-tag_at-wanted : goal.returns-then-tag_at-wanted
returns-then-tag_at-wanted c = λ _. fits_type _ _ _ _ c.read.ensures c.in-Done.is c.requires (tag_told c.tag_at.ensures) c.wanted.ensures c.if-tag_at-wanted.true

pub returns-else-tag_at-wanted : goal.returns-else-tag_at-wanted
returns-else-tag_at-wanted c = λ n. absurd (n refl)

pub returns-in-Bad : goal.returns-in-Bad
returns-in-Bad c = λ n. absurd (n refl)

pub returns-in-Deep : goal.returns-in-Deep
returns-in-Deep c = λ n. absurd (n refl)
