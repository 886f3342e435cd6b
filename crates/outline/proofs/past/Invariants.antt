-- `outline::past` meets its contract. The loop's invariant: the first k bytes of the word were read up to i. A byte of the word is read as itself or by an escape of a number; where it
-- is not, the string begins otherwise. Assumes nothing.
use Prim.Native.Nat.{◌-◌}
use lib.ListN.{length}
use Rattle.outline.proofs.Words.{Along}
use Rattle.outline.proofs.past.Given as goal

abbrev pub invariant-loop-k : goal.invariant-loop-k
invariant-loop-k l = Along l.s l.from l.word l.i l.k

abbrev pub decreases-loop-k : goal.decreases-loop-k
decreases-loop-k l = length l.word - l.k
