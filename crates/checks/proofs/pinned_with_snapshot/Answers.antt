-- `checks::pinned_with_snapshot` meets its contract: the file's numbers tell its tie and whether it has a snapshot. Assumes nothing.
use borrow.Author.Tests.{ne_eqb}
use mathlib.Core.Path.{◌∙◌}
use Rattle.checks.specs.laws.Told.{pinned_not, pinned_yes}
use Rattle.checks.proofs.pinned_with_snapshot.Goals as goal

pub returns-then-file_number-eq-PINNED : goal.returns-then-file_number-eq-PINNED
returns-then-file_number-eq-PINNED c = pinned_yes c.args.t.now c.args.f c.file_number.ensures c.if-file_number-eq-PINNED.true c.file_number-then-file_number-eq-PINNED.ensures

pub returns-else-file_number-eq-PINNED : goal.returns-else-file_number-eq-PINNED
returns-else-file_number-eq-PINNED c = ne_eqb c.file_number.result 2 c.if-file_number-eq-PINNED.false ∙ pinned_not c.args.t.now c.args.f c.file_number.ensures c.if-file_number-eq-PINNED.false
