-- `survey::entry_member` meets its contract: the name is read, its line is told by it, and the value behind the colon by `entry_value`.
-- Assumes nothing.
use mathlib.Core.Path.{refl}
use Rattle.table.specs.laws.Looking.{line_gives}
use Rattle.survey.proofs.Stepping.{entered}
use Rattle.survey.proofs.Holding.{value_past}
use Rattle.survey.proofs.entry_member.Goals as goal

pub returns-then-j-eq0 : goal.returns-then-j-eq0
returns-then-j-eq0 c = λ n. absurd (n refl)

pub entry_value-end-requires : goal.entry_value-end-requires
entry_value-end-requires c = (value_past _ _ (c.name_end-j.ensures c.if-j-eq0.false) c.blank-v.ensures, c.requires.0, c.requires.1)

pub returns : goal.returns
returns c = λ n. (entered _ _ _ _ (c.name_end-j.ensures c.if-j-eq0.false) (line_gives c.line_of-line.ensures) c.blank-v.ensures refl (c.entry_value-end.ensures n).0, (c.entry_value-end.ensures n).1)
