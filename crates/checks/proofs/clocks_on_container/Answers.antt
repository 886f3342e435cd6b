-- `checks::clocks_on_container` meets its contract: the file's numbers tell its container flag and its tie. Assumes nothing.
use borrow.Author.Tests.{eq-eqb}
use mathlib.Core.Path.{ap, ◌∙◌}
use mathlib.Core.Bool.{not}
use Rattle.checks.specs.laws.Told.{container_not, container_tied, container_else}
use Rattle.checks.proofs.clocks_on_container.Goals as goal

pub returns-then-tie-eq-TIED : goal.returns-then-tie-eq-TIED
returns-then-tie-eq-TIED c = eq-eqb c.file_number-tie.result 1 c.if-tie-eq-TIED.true ∙ container_tied c.args.t.now c.args.f c.file_number.ensures c.if-file_number-ne0.true c.file_number-tie.ensures c.if-tie-eq-TIED.true

pub returns-else-tie-eq-TIED : goal.returns-else-tie-eq-TIED
returns-else-tie-eq-TIED c = container_else c.args.t.now c.args.f c.file_number.ensures c.if-file_number-ne0.true c.file_number-tie.ensures c.if-tie-eq-TIED.false

pub returns-else-file_number-ne0 : goal.returns-else-file_number-ne0
returns-else-file_number-ne0 c = ap not (eq-eqb c.file_number.result 0 c.if-file_number-ne0.false) ∙ container_not c.args.t.now c.args.f c.file_number.ensures c.if-file_number-ne0.false
