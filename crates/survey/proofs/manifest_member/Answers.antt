-- `survey::manifest_member` meets its contract: the name is read, its line is told by it, and the value behind the colon by `manifest_value`.
-- Assumes nothing.
use mathlib.Core.Path.{refl}
use Rattle.table.specs.laws.Looking.{line_gives}
use Rattle.survey.proofs.Stepping.{entered}
use Rattle.survey.proofs.Holding.{value_past}
use Rattle.survey.proofs.manifest_member.Goals as goal

pub returns-then-j-eq0 : goal.returns-then-j-eq0
returns-then-j-eq0 c = λ n. absurd (n refl)

pub manifest_value-end-requires : goal.manifest_value-end-requires
manifest_value-end-requires c = (value_past _ _ (c.name_end-j.ensures c.if-j-eq0.false) c.blank-v.ensures, c.requires)

pub returns : goal.returns
returns c = λ n. (entered _ _ _ _ (c.name_end-j.ensures c.if-j-eq0.false) (line_gives c.line_of-line.ensures) c.blank-v.ensures refl (c.manifest_value-end.ensures n).0, (c.manifest_value-end.ensures n).1)
