-- `print_of` is the print of the path. The invariant says that the print so far, with the fields that are left, is that of the path. Assumes nothing.
use Rattle.sheet.specs.laws.Prints.{print_from, print_here}
use Prim.Native.Nat.{◌+◌, ◌-◌, ◌*◌, ◌%◌}
use mathlib.Core.Path.{◌≡◌}
use Rattle.sheet.proofs.print_of.Given as goal

abbrev pub invariant-loop-k : goal.invariant-loop-k
invariant-loop-k l = print_from l.s l.print (l.a + 15 + 64 * l.k) (l.eights - l.k) (l.n % 8) ≡ print_here l.s l.a
