-- `paths::meets` meets its contract: if a byte of the row passed and the mask's byte at the same place are both not 0, `most` is not 0.
use Prim.Native.Nat.{ℕ, ◌+◌, ◌*◌, ◌<◌}
use lib.ListN.{get_or}
use Rattle.paths.proofs.meets.Given as goal

abbrev pub invariant-loop-d : goal.invariant-loop-d
invariant-loop-d l = (i : ℕ) → i < l.d → 0 < get_or l.mask i 0 → 0 < get_or l.matrix (l.e * l.n + i) 0 → 0 < l.most
