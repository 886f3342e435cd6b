-- `named::place_by_print` meets its contract: the invariant is that the names from place k on decide. A name with another print is another text. Assumes nothing.
use mathlib.Core.Path.{◌≡◌}
use Prim.Native.Nat.{◌-◌, ◌≤◌}
use lib.ListN.{take}
use Rattle.named.specs.laws.Firsts.{known_from}
use Rattle.named.specs.laws.Texts.{known}
use Rattle.named.proofs.place_by_print.Given as goal

abbrev pub invariant-loop-k : goal.invariant-loop-k
invariant-loop-k l = (l.k ≤ l.n) × (known l.s l.p (take l.n l.names) ≡ known_from l.s l.names l.p l.n l.k)

abbrev pub decreases-loop-k : goal.decreases-loop-k
decreases-loop-k l = l.n - l.k
