-- `lines::source_file` meets its contract: the number stands where the table has it, and past the last source is 0. Assumes nothing.
use mathlib.Core.Path.{◌∙◌}
use native.Mathlib.Omega.{arith}
use Rattle.checks.specs.Table.{source_number}
use Rattle.lines.specs.laws.Tables.{source_here, source_past}
use Rattle.lines.proofs.source_file.Goals as goal

pub returns-then-j-sources : goal.returns-then-j-sources
unfolding source_number
returns-then-j-sources c = (c.wide.ensures.0 ∙ source_here c.args.t.now c.args.j (omega (arith, c.sources.ensures.0)), c.wide.ensures.1)

pub returns : goal.returns
returns c = (source_past c.args.t.now c.args.j (omega (arith, c.sources.ensures.0)), omega arith)
