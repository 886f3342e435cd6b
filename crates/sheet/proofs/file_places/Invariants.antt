-- `file_places` holds the place of each file before i, and 0 from there on: `Placed` is the invariant. Assumes nothing.
use Rattle.sheet.proofs.Placed.{Placed}
use Rattle.sheet.proofs.file_places.Given as goal

abbrev pub invariant-loop-i : goal.invariant-loop-i
invariant-loop-i l = Placed l.s l.n l.i l.p l.places
