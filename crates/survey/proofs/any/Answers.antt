-- `survey::any` meets its contract: the value was read, and nothing is asked of its type. Assumes nothing.
use mathlib.Core.Path.{refl}
use Rattle.survey.proofs.Stepping.{fits_any}
use Rattle.survey.proofs.any.Goals as goal

pub returns-in-Done : goal.returns-in-Done
returns-in-Done c = λ _. fits_any _ _ _ _ c.read.ensures c.in-Done.is refl

pub returns-in-Bad : goal.returns-in-Bad
returns-in-Bad c = λ n. absurd (n refl)

pub returns-in-Deep : goal.returns-in-Deep
returns-in-Deep c = λ n. absurd (n refl)
