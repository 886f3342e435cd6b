-- `checks::sources_in` meets its contract: the invariant is that the count so far and the sources from number j on make the whole count.
-- Assumes nothing.
use Prim.Native.Nat.{◌≤◌}
use Rattle.checks.specs.Table.{source_by, sources_held}
use Rattle.checks.specs.laws.Listed.{Counted}
use Rattle.checks.proofs.sources_in.Given as goal

abbrev pub invariant-loop-j : goal.invariant-loop-j
invariant-loop-j l = (l.count ≤ l.j) × Counted l.file (source_by l.t) (sources_held l.t) l.count l.j
