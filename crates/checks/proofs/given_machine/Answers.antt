-- `checks::given_machine` meets its contract: a machine is given where what is said names one. Assumes nothing.
use mathlib.Core.Path.{refl, sym, ◌∙◌}
use Rattle.text.specs.laws.Readers.{pick_true, pick_false}
use Rattle.checks.specs.laws.Told.{given_so}
use Rattle.checks.proofs.given_machine.Goals as goal

pub returns-then-has_machine : goal.returns-then-has_machine
returns-then-has_machine c = sym (pick_true _ _ c.if-has_machine.true) ∙ given_so c.args.t.now c.args.j c.source_number.ensures c.source_number-then-has_machine.ensures c.has_machine.ensures

pub returns : goal.returns
returns c = sym (pick_false _ _ c.if-has_machine.false) ∙ given_so c.args.t.now c.args.j c.source_number.ensures refl c.has_machine.ensures
