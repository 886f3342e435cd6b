-- `survey::machines` meets its contract: the invariant is that the items so far were read, none with a flaw, and their columns were put into the index.
-- Assumes nothing.
use Prim.Native.Nat.{◌-◌}
use Rattle.index.specs.Index.{item_row}
use Rattle.survey.proofs.Items.{Sound}
use Rattle.survey.proofs.Arrays.{Collecting}
use Rattle.survey.proofs.machines.Given as goal

abbrev pub invariant-loop-n : goal.invariant-loop-n
invariant-loop-n l = Collecting Sound 11 (item_row l.s) l.s l.at l.base l.initial.ix l.i l.n l.ix

abbrev pub decreases-loop-n : goal.decreases-loop-n
decreases-loop-n l = 32 - l.n
