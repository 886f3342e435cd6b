-- `print_paths` holds the prints of the first k paths: that is the invariant, and `Printed` says it. Assumes nothing.
use Rattle.sheet.specs.laws.Prints.{Printed}
use Rattle.sheet.proofs.print_paths.Given as goal

abbrev pub invariant-loop-path : goal.invariant-loop-path
invariant-loop-path l = Printed l.s l.prints l.path
