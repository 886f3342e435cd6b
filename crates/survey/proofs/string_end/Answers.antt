-- `survey::string_end` meets its contract: so does the short way, and where that gives 0 the string is read by `text::string`. Assumes nothing.
use mathlib.Core.Path.{refl, sym, ◌∙◌}
use Rattle.survey.proofs.string_end.Goals as goal

pub returns-then-end-gt0 : goal.returns-then-end-gt0
returns-then-end-gt0 c = λ n. c.plain_end-end.ensures n

pub returns-in-Done : goal.returns-in-Done
returns-in-Done c = λ _. sym c.string.ensures ∙ c.in-Done.is

pub returns-in-Bad : goal.returns-in-Bad
returns-in-Bad c = λ n. absurd (n refl)

pub returns-in-Deep : goal.returns-in-Deep
returns-in-Deep c = λ n. absurd (n refl)
