-- `survey::clocks_member` meets its contract: the value of `sync_to` is told by its row, any other by its type. Assumes nothing.
use mathlib.Core.Path.{refl}
use Rattle.table.specs.laws.Looking.{line_gives}
use Rattle.survey.proofs.Entries.{sync_entered, other_entered}
use Rattle.survey.proofs.clocks_member.Goals as goal

pub returns-then-j-eq0 : goal.returns-then-j-eq0
returns-then-j-eq0 c = λ n. absurd (n refl)

pub returns-then-line-eq5 : goal.returns-then-line-eq5
returns-then-line-eq5 c = λ n. sync_entered _ _ (c.name_end-j.ensures c.if-j-eq0.false) (line_gives c.line_of-line.ensures) c.blank-v.ensures c.if-line-eq5.true (c.kept-end.ensures n)

pub returns-else-line-eq5 : goal.returns-else-line-eq5
returns-else-line-eq5 c = λ n. other_entered _ _ (c.name_end-j.ensures c.if-j-eq0.false) (line_gives c.line_of-line.ensures) c.blank-v.ensures c.if-line-eq5.false c.value_kind.ensures (c.passed-end.ensures n) refl
