-- `listed::settle` meets its contract: no name, one that the table has, one more than it holds, or one that is added, and in each case the table stays one of names. Assumes nothing.
use native.Mathlib.Omega.{arith}
use Rattle.listed.specs.laws.Slots.{measured_held}
use Rattle.listed.specs.laws.Names.{table_kept, table_more, size_at_none, size_at_some, cell_none, cell_found, cell_full, cell_more}
use Rattle.listed.proofs.settle.Goals as goal

pub returns-then-p-eq0 : goal.returns-then-p-eq0
returns-then-p-eq0 c = (c.requires.1, cell_none c.requires.1 c.args.ix.now c.args.c c.if-p-eq0.true, size_at_none c.args.s.now c.if-p-eq0.true)

pub place_of-k-requires : goal.place_of-k-requires
place_of-k-requires c = (table_kept c.requires.1 c.measured-m.ensures.kept, measured_held c.requires.1.few c.measured-m.ensures, c.measured-m.ensures.printed)

pub returns-then-k-n : goal.returns-then-k-n
returns-then-k-n c = (table_kept c.requires.1 c.measured-m.ensures.kept, cell_found c.requires.1 c.args.ix.now c.args.c c.if-p-eq0.false c.place_of-k.ensures c.if-k-n.true, size_at_some c.args.s.now c.if-p-eq0.false c.measured-m.ensures.long)

pub returns-then-n-ge32 : goal.returns-then-n-ge32
returns-then-n-ge32 c = (table_kept c.requires.1 c.measured-m.ensures.kept, cell_full c.requires.1 c.args.ix.now c.args.c c.if-p-eq0.false c.place_of-k.ensures c.if-k-n.false c.if-n-ge32.true, size_at_some c.args.s.now c.if-p-eq0.false c.measured-m.ensures.long)

pub returns : goal.returns
returns c = (table_more c.requires.1 (omega arith) c.if-p-eq0.false c.measured-m.ensures, cell_more c.requires.1 c.args.ix.now c.args.c c.if-p-eq0.false c.place_of-k.ensures c.if-k-n.false (omega arith), size_at_some c.args.s.now c.if-p-eq0.false c.measured-m.ensures.long)
