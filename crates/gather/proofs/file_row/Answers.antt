-- `file_row`: zeros past the last file; else each number is the definition's. Assumes nothing.
use Rattle.gather.proofs.Steps.{row_none, file_made}
use Rattle.gather.proofs.Recorded.{flag_at}
use mathlib.Core.Path.{sym}
use native.Mathlib.Omega.{arith}
use Rattle.gather.proofs.file_row.Goals as goal

pub returns-then-t-f : goal.returns-then-t-f
returns-then-t-f c = sym (row_none _ 6 _ _ c.if-t-f.true)

pub path_entry-e-requires : goal.path_entry-e-requires
path_entry-e-requires c = c.requires.1

pub bounds-recorded-f : goal.bounds-recorded-f
bounds-recorded-f c = omega (arith, c.requires.0.few_files)

pub overflow_cast-result : goal.overflow_cast-result
overflow_cast-result c = omega (arith, c.path_entry-e.ensures.1)

pub returns : goal.returns
returns c = file_made c.args.s.now c.args.ix.now c.args.lookups.now c.args.b.now c.args.t c.args.f c.args.at c.if-t-f.false (c.requires.2 c.if-t-f.false) c.path_entry-e.ensures.0 c.tie-tie.ensures c.base-base.ensures c.small-machine.ensures c.head_at-h.ensures c.flag-container.ensures c.small-claim.ensures (flag_at c.requires.3 c.args.s.now c.args.ix.now c.args.lookups.now c.args.f (omega (arith, c.requires.0.few_files)) c.small-seen.ensures)
