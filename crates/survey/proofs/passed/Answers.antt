-- `survey::passed` meets its contract: a value of any kind was read, a text is a string that was read, and any other value is told by its type.
-- Assumes nothing.
use Rattle.survey.proofs.Stepping.{fits_same}
use Rattle.survey.proofs.passed.Goals as goal

pub returns-then-kind-eq2 : goal.returns-then-kind-eq2
returns-then-kind-eq2 c = λ n. fits_same c.if-kind-eq2.true (c.any.ensures n)

pub returns-then-kind-eq0 : goal.returns-then-kind-eq0
returns-then-kind-eq0 c = λ n. fits_same c.if-kind-eq0.true (c.text_end.ensures n _)

pub typed-requires : goal.typed-requires
typed-requires c = c.requires

pub returns : goal.returns
returns c = λ n. c.typed.ensures n
