-- `survey::kept` meets its contract: what is kept is the row, and its end is the first number of it. Assumes nothing.
use mathlib.Core.Path.{refl}
use Rattle.survey.proofs.kept.Goals as goal

pub returns : goal.returns
returns c = λ n. record { row = c.row-found.ensures n; ends = refl }
