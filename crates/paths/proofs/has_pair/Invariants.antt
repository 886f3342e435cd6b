-- `paths::has_pair` meets its contract: no byte of the row passed is more than `most`, so where that is 0 the row is bare.
use Prim.Native.Nat.{ℕ, ◌≤◌, ◌<◌}
use lib.ListN.{get_or}
use Rattle.paths.proofs.has_pair.Given as goal

abbrev pub invariant-loop-cell : goal.invariant-loop-cell
invariant-loop-cell l = (i : ℕ) → i < l.cell-index → get_or l.cell-items i 0 ≤ l.most
