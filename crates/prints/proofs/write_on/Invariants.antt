-- `prints::write_on` meets its contract. The loop keeps that the bytes written, with what is left of the string, are the text, whatever text that is: each character keeps it. At a quote nothing is left,
-- and where no character stands there is no text. Assumes nothing.
use Prim.Native.Nat.{◌-◌}
use lib.ListN.{length}
use Rattle.prints.specs.laws.Walks.{Going}
use Rattle.prints.proofs.write_on.Given as goal

abbrev pub invariant-loop-text : goal.invariant-loop-text
invariant-loop-text l = Going l.s l.from l.count l.initial.text l.i l.n l.text

abbrev pub decreases-loop-text : goal.decreases-loop-text
decreases-loop-text l = length l.s - l.i
