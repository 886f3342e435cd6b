-- `step_over` is the step on every input: where the test passes the state fits, and the step is the one over the record there. Assumes nothing.
use mathlib.Core.Path.{sym, ◌∙◌}
use Rattle.records.specs.laws.States.{may_fit}
use Rattle.records.proofs.step_over.Goals as goal

pub step_by_kind-requires : goal.step_by_kind-requires
step_by_kind-requires c = may_fit c.args.s.now c.args.st (sym c.may_be.ensures ∙ c.if-may_be.true)
