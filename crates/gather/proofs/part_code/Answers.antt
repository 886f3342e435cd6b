-- `part_code`: two numbers for each answer. Assumes nothing.
use mathlib.Core.List.{[], ◌∷◌}
use Rattle.gather.specs.Gathered.{part_code}
use mathlib.Core.Path.{sym, ap, ◌∙◌}
use Rattle.gather.proofs.part_code.Goals as goal

pub returns-in-Undeclared : goal.returns-in-Undeclared
unfolding part_code
returns-in-Undeclared c = sym (ap part_code c.in-Undeclared.is)

pub returns-in-Of : goal.returns-in-Of
unfolding part_code
returns-in-Of c = (λ i. 2 ∷ c.small.ensures i ∷ []) ∙ sym (ap part_code c.in-Of.is)
