-- `once::number_among` meets its contract: 0 stands for no id; two other numbers stand for one id if they are the same, and the invariant is that those from place k on decide. Assumes nothing.
use mathlib.Core.Path.{◌≡◌}
use Prim.Native.Nat.{◌-◌}
use lib.Dec.{eqb}
use lib.ListN.{take, drop}
use Rattle.manifest.specs.Rows.{any}
use Rattle.manifest.specs.Rules.{same_id}
use Rattle.once.specs.laws.Parts.{id_of, ids_in}
use Rattle.once.proofs.number_among.Given as goal

abbrev pub invariant-loop-k : goal.invariant-loop-k
invariant-loop-k l = any (λ z. any (same_id z) (ids_in l.table l.n l.from)) (id_of l.v) ≡ any (λ u. eqb u l.v) (drop l.k (take l.n l.table))

abbrev pub decreases-loop-k : goal.decreases-loop-k
decreases-loop-k l = l.n - l.k
