-- `source_row`: zeros past the last source; else the entry of its file is in the table. Assumes nothing.
use Rattle.gather.proofs.Steps.{row_none, source_low, source_made}
use mathlib.Core.Path.{sym}
use native.Mathlib.Omega.{arith}
use Rattle.gather.proofs.source_row.Goals as goal

pub returns-then-t-j : goal.returns-then-t-j
returns-then-t-j c = sym (row_none _ 4 _ _ c.if-t-j.true)

pub bounds-out-long : goal.bounds-out-long
bounds-out-long c = omega (arith, source_low c.args.s.now c.args.ix.now c.args.lookups.now c.args.b.now c.args.t c.requires.0 c.requires.1 c.requires.2 _ c.if-t-j.false c.source_at-x.ensures, c.long.ensures.0)

pub returns : goal.returns
returns c = source_made c.args.s.now c.args.ix.now c.args.lookups.now c.args.b.now c.args.t c.requires.0 c.requires.1 c.requires.2 _ c.if-t-j.false c.source_at-x.ensures c.long.ensures.0 c.wide-e.ensures.0 c.owned_code-said.ensures c.small.ensures
