-- `named::number_by` meets its contract: the invariant is that the name, looked for from place k on, gives the number. A name with another print is another text. The slice of the table tells its length. Assumes nothing.
use mathlib.Core.Path.{◌≡◌}
use Prim.Native.Nat.{◌-◌, ◌≤◌}
use lib.ListN.{length}
use Rattle.named.specs.laws.Firsts.{number_from}
use Rattle.named.specs.Named.{number_by}
use Rattle.named.proofs.number_by.Given as goal

abbrev pub invariant-loop-k : goal.invariant-loop-k
invariant-loop-k l = (l.k ≤ 32) × (length l.table ≡ 129) × (number_by l.s l.table l.p ≡ number_from l.s l.table l.p l.k)

abbrev pub decreases-loop-k : goal.decreases-loop-k
decreases-loop-k l = 32 - l.k
