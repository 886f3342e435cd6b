-- `prints::print_bytes` meets its contract: the invariant is that the print so far, with the bytes that are left, is the print of all. Assumes nothing.
use mathlib.Core.Path.{◌≡◌}
use Prim.Native.Nat.{◌-◌}
use Rattle.text.specs.Reading.{part}
use Rattle.prints.specs.Prints.{print_from}
use Rattle.prints.proofs.print_bytes.Given as goal

abbrev pub invariant-loop-i : goal.invariant-loop-i
invariant-loop-i l = print_from l.print (part l.s l.i l.end) ≡ print_from 0 (part l.s l.from l.end)

abbrev pub decreases-loop-i : goal.decreases-loop-i
decreases-loop-i l = l.end - l.i
