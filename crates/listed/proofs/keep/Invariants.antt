-- `listed::keep` meets its contract: the invariant is that the first k bytes are put in, from the start of the slot on. Assumes nothing.
use Prim.Native.Nat.{◌-◌, ◌≤◌}
use lib.ListN.{take}
use Rattle.index.proofs.laws.Put.{Put}
use Rattle.listed.proofs.keep.Given as goal

abbrev pub invariant-loop-k : goal.invariant-loop-k
invariant-loop-k l = (l.k ≤ 256) × Put l.initial.texts l.base (take l.k l.text) l.texts

abbrev pub decreases-loop-k : goal.decreases-loop-k
decreases-loop-k l = 256 - l.k
