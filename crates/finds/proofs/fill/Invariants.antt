-- `finds::fill` meets its contract: the last number is put first; then the invariant is that the first i numbers of each of the four parts are in the table. Assumes nothing.
use Prim.Native.Nat.{◌-◌, ◌≤◌}
use mathlib.Core.Path.{◌≡◌}
use mathlib.Core.List.{map}
use lib.ListN.{length}
use Rattle.named.specs.Named.{name_table, print_table}
use Rattle.finds.specs.Finds.{from_one, of_entries}
use Rattle.finds.specs.laws.Lookups.{Fourths}
use Rattle.finds.proofs.fill.Given as goal

abbrev pub invariant-loop-i : goal.invariant-loop-i
invariant-loop-i l = (l.i ≤ 32) × (length l.cites ≡ 32) × Fourths (name_table l.s l.ix) (print_table l.s l.ix) (map from_one l.cites) (of_entries l.ix l.prints) (from_one l.trace) l.table l.i

abbrev pub decreases-loop-i : goal.decreases-loop-i
decreases-loop-i l = 32 - l.i
