-- `prints::put_row` meets its contract: the invariant is that the bytes of the row up to the one that is next are put. Those that are left when the loop ends have no room. Assumes nothing.
use Prim.Native.Nat.{◌+◌, ◌-◌, ◌≤◌}
use Rattle.text.specs.Reading.{part}
use Rattle.prints.specs.laws.Fronts.{Puts}
use Rattle.prints.proofs.put_row.Given as goal

abbrev pub invariant-loop-i : goal.invariant-loop-i
invariant-loop-i l = (l.i ≤ l.k) × Puts l.initial.text l.n (part l.s l.from (l.from + l.i)) l.text (l.n + l.i)

abbrev pub decreases-loop-i : goal.decreases-loop-i
decreases-loop-i l = l.k - l.i
