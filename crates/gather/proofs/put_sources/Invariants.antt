-- `put_sources`: the invariant is that the first j rows are put in; then the entries of the files are as they were. Assumes nothing.
use Rattle.gather.specs.Gathered.{row_in, source_row}
use Rattle.index.proofs.laws.Put.{Put}
use Rattle.index.specs.Index.{rows}
use Prim.Native.Nat.{◌-◌, ◌≤◌}
use Rattle.gather.proofs.put_sources.Given as goal

abbrev pub invariant-loop-j : goal.invariant-loop-j
invariant-loop-j l = (l.j ≤ 32) × Put l.initial.out 196 (rows (row_in l.t.sources.count 4 (source_row l.s l.ix l.lookups l.b l.t)) l.j) l.out

abbrev pub decreases-loop-j : goal.decreases-loop-j
decreases-loop-j l = 32 - l.j
