-- `survey::member` meets its contract: the name is read, its line is told by it, and the value behind the colon fits the line.
-- Assumes nothing.
use mathlib.Core.Path.{refl}
use Rattle.table.specs.laws.Looking.{line_gives}
use Rattle.survey.proofs.Stepping.{entered}
use Rattle.survey.proofs.member.Goals as goal

pub returns-then-j-eq0 : goal.returns-then-j-eq0
returns-then-j-eq0 c = λ n. absurd (n refl)

pub returns : goal.returns
returns c = λ n. entered _ _ _ _ (c.name_end-j.ensures c.if-j-eq0.false) (line_gives c.line_of-line.ensures) c.blank-v.ensures c.value_kind.ensures (c.passed-end.ensures n)
