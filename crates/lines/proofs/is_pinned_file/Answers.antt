-- `lines::is_pinned_file` meets its contract: a tie of 2 is pinned, and past the last file nothing is. Assumes nothing.
use native.Mathlib.Omega.{arith}
use Rattle.checks.specs.Table.{file_number}
use Rattle.lines.specs.laws.Tables.{pinned_here, pinned_past}
use Rattle.lines.proofs.is_pinned_file.Goals as goal

pub returns-then-f-files : goal.returns-then-f-files
unfolding file_number
returns-then-f-files c = pinned_here c.args.t.now c.args.f (omega (arith, c.files.ensures.0))

pub returns : goal.returns
returns c = pinned_past c.args.t.now c.args.f (omega (arith, c.files.ensures.0))
