-- `traced::pinned` meets its contract. The loop's invariant: the number has the bits of the files from number k on; of at most 31 files it fits twice. Assumes nothing.
use mathlib.Core.Path.{◌≡◌}
use Prim.Native.Nat.{◌≤◌}
use Rattle.checks.specs.Table.{files_in}
use Rattle.traced.specs.laws.Files.{pinned_from}
use Rattle.traced.proofs.pinned.Given as goal

abbrev pub invariant-loop-k : goal.invariant-loop-k
invariant-loop-k l = (l.k ≤ files_in l.t) × ((l.k ≤ 32) × (l.bits ≡ pinned_from l.t l.k))
