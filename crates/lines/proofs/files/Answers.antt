-- `lines::files` meets its contract: the count is the first number, cut at 32. Assumes nothing.
use native.Mathlib.Omega.{arith}
use Rattle.checks.specs.Table.{files_in}
use Rattle.lines.proofs.files.Goals as goal

pub returns : goal.returns
unfolding files_in
returns c = omega arith
