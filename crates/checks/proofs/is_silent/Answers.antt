-- `checks::is_silent` meets its contract: what is said is none of three numbers. Assumes nothing.
use mathlib.Core.Path.{sym, ap, ◌∙◌}
use mathlib.Core.Bool.{Bool, not, ◌&&◌}
use lib.Dec.{eqb}
use Rattle.checks.specs.laws.Told.{silent_is_so}
use Rattle.checks.proofs.is_silent.Goals as goal

pub returns-then-not-has_machine : goal.returns-then-not-has_machine
returns-then-not-has_machine c =
    ap (λ (b : Bool). not b && not (eqb c.source_number-said.result 3)) (sym c.if-not-has_machine.true)
    ∙ silent_is_so c.args.t.now c.args.j c.source_number-said.ensures c.has_machine.ensures

pub returns-else-not-has_machine : goal.returns-else-not-has_machine
returns-else-not-has_machine c =
    ap not c.if-not-has_machine.false
    ∙ (ap (λ (b : Bool). not b && not (eqb c.source_number-said.result 3)) (sym c.if-not-has_machine.false)
    ∙ silent_is_so c.args.t.now c.args.j c.source_number-said.ensures c.has_machine.ensures)
