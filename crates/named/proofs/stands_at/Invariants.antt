-- `named::stands_at` meets its contract: the invariant is that the position, looked for from place k on, stands where it stands in the table. The slice of the table tells its length. Assumes nothing.
use mathlib.Core.Path.{◌≡◌}
use Prim.Native.Nat.{◌-◌, ◌≤◌}
use lib.ListN.{length}
use Rattle.named.specs.laws.Firsts.{stands_from}
use Rattle.named.specs.Named.{stands_at}
use Rattle.named.proofs.stands_at.Given as goal

abbrev pub invariant-loop-k : goal.invariant-loop-k
invariant-loop-k l = (l.k ≤ 32) × (length l.table ≡ 129) × (stands_at l.table l.p ≡ stands_from l.table l.p l.k)

abbrev pub decreases-loop-k : goal.decreases-loop-k
decreases-loop-k l = 32 - l.k
