-- `meant::link` meets its contract: each column in turn, then the entry that the table has: a law for each `return`. An entry with a column that is not 0 is below 32. Assumes nothing.
use mathlib.Core.Path.{refl}
use native.Mathlib.Omega.{arith}
use Rattle.meant.proofs.Steps.{col_below, link_no_clocks, link_no_sync, link_none, link_no_entry, link_related}
use Rattle.meant.proofs.link.Goals as goal

pub returns-then-col-eq0 : goal.returns-then-col-eq0
returns-then-col-eq0 c = link_no_clocks c.args.s.now c.args.ix.now c.args.lookups.now _ c.col.ensures c.if-col-eq0.true

pub returns-then-col-eq0-2 : goal.returns-then-col-eq0-2
returns-then-col-eq0-2 c = link_no_sync c.args.s.now c.args.ix.now c.args.lookups.now _ c.col.ensures c.if-col-eq0.false c.col-2.ensures c.if-col-eq0-2.true

pub overflow_add-cited : goal.overflow_add-cited
overflow_add-cited c = omega (arith, col_below c.args.ix.now _ 4 c.col.ensures c.if-col-eq0.false)

pub offset_bounds-lookups-i : goal.offset_bounds-lookups-i
offset_bounds-lookups-i c = omega (arith, col_below c.args.ix.now _ 4 c.col.ensures c.if-col-eq0.false)

pub bounds-lookups-i : goal.bounds-lookups-i
bounds-lookups-i c = omega (arith, col_below c.args.ix.now _ 4 c.col.ensures c.if-col-eq0.false)

pub returns-then-cited-eq0 : goal.returns-then-cited-eq0
returns-then-cited-eq0 c = link_none c.args.s.now c.args.ix.now c.args.lookups.now _ c.col.ensures c.if-col-eq0.false c.col-2.ensures c.if-col-eq0-2.false refl c.if-cited-eq0.true

pub returns-then-cited-gt32 : goal.returns-then-cited-gt32
returns-then-cited-gt32 c = link_no_entry c.args.s.now c.args.ix.now c.args.lookups.now _ c.col.ensures c.if-col-eq0.false c.col-2.ensures c.if-col-eq0-2.false refl c.if-cited-eq0.false c.if-cited-gt32.true

pub related_to-requires : goal.related_to-requires
related_to-requires c = (col_below c.args.ix.now _ 4 c.col.ensures c.if-col-eq0.false, omega arith)

pub returns : goal.returns
returns c = link_related c.args.s.now c.args.ix.now c.args.lookups.now _ c.col.ensures c.if-col-eq0.false c.col-2.ensures c.if-col-eq0-2.false refl c.if-cited-eq0.false c.if-cited-gt32.false c.related_to.ensures
