-- `survey::files` meets its contract: the invariant is that the entries so far were read, none with a flaw, and their blocks were put into the index.
-- Assumes nothing.
use Prim.Native.Nat.{◌-◌}
use Rattle.index.specs.Index.{block}
use Rattle.survey.proofs.Blocks.{Whole}
use Rattle.survey.proofs.Arrays.{Collecting}
use Rattle.survey.proofs.files.Given as goal

abbrev pub invariant-loop-n : goal.invariant-loop-n
invariant-loop-n l = Collecting (Whole l.s) 13 (block l.s) l.s l.at 5 l.initial.ix l.i l.n l.ix

abbrev pub decreases-loop-n : goal.decreases-loop-n
decreases-loop-n l = 32 - l.n
