-- `lines::sources` meets its contract: the count is the second number, cut at 32. Assumes nothing.
use native.Mathlib.Omega.{arith}
use Rattle.checks.specs.Table.{sources_held}
use Rattle.lines.proofs.sources.Goals as goal

pub returns : goal.returns
unfolding sources_held
returns c = omega arith
