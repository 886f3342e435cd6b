-- `put_files`: the invariant is that the first f rows are put in. Assumes nothing.
use Rattle.gather.specs.Gathered.{row_in, file_row}
use Rattle.index.proofs.laws.Put.{Put}
use Rattle.index.specs.Index.{rows}
use Prim.Native.Nat.{◌-◌, ◌≤◌}
use Rattle.gather.proofs.put_files.Given as goal

abbrev pub invariant-loop-f : goal.invariant-loop-f
invariant-loop-f l = (l.f ≤ 32) × Put l.initial.out 4 (rows (row_in l.t.files 6 (file_row l.s l.ix l.lookups l.b l.t)) l.f) l.out

abbrev pub decreases-loop-f : goal.decreases-loop-f
decreases-loop-f l = 32 - l.f
