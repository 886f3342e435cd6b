-- `listing`: the invariant is that the entries from number i on decide which has the path. Only one that has its print is asked for its text. Assumes nothing.
use mathlib.Core.Path.{◌≡◌}
use Prim.Native.Nat.{◌-◌, ◌≤◌}
use Rattle.gather.specs.Gathered.{entry_with}
use Rattle.gather.specs.laws.Listings.{listed_from}
use Rattle.gather.proofs.listing.Given as goal

abbrev pub invariant-loop-i : goal.invariant-loop-i
invariant-loop-i l = (l.i ≤ l.n) × (entry_with l.s l.ix l.lookups l.path ≡ listed_from l.s l.ix l.lookups l.path l.i)

abbrev pub decreases-loop-i : goal.decreases-loop-i
decreases-loop-i l = l.n - l.i
