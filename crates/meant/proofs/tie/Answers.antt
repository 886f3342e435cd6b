-- `meant::tie` meets its contract: a law for each way out, as for `link`. An entry with a column that is not 0 is below 32. Assumes nothing.
use mathlib.Core.Path.{refl}
use native.Mathlib.Omega.{arith}
use Rattle.meant.proofs.Steps.{col_below, tie_no_clocks, tie_no_sync, tie_none, tie_no_entry, tie_private, tie_named}
use Rattle.meant.proofs.tie.Goals as goal

pub returns-then-col-eq0 : goal.returns-then-col-eq0
returns-then-col-eq0 c = tie_no_clocks c.args.ix.now c.args.ix.now c.args.lookups.now _ c.col.ensures c.if-col-eq0.true

pub returns-then-col-eq0-2 : goal.returns-then-col-eq0-2
returns-then-col-eq0-2 c = tie_no_sync c.args.ix.now c.args.ix.now c.args.lookups.now _ c.col.ensures c.if-col-eq0.false c.col-2.ensures c.if-col-eq0-2.true

pub overflow_add-cited : goal.overflow_add-cited
overflow_add-cited c = omega (arith, col_below c.args.ix.now _ 4 c.col.ensures c.if-col-eq0.false)

pub offset_bounds-lookups-i : goal.offset_bounds-lookups-i
offset_bounds-lookups-i c = omega (arith, col_below c.args.ix.now _ 4 c.col.ensures c.if-col-eq0.false)

pub bounds-lookups-i : goal.bounds-lookups-i
bounds-lookups-i c = omega (arith, col_below c.args.ix.now _ 4 c.col.ensures c.if-col-eq0.false)

pub returns-then-cited-eq0 : goal.returns-then-cited-eq0
returns-then-cited-eq0 c = tie_none c.args.ix.now c.args.ix.now c.args.lookups.now _ c.col.ensures c.if-col-eq0.false c.col-2.ensures c.if-col-eq0-2.false refl c.if-cited-eq0.true

pub returns-then-cited-gt32 : goal.returns-then-cited-gt32
returns-then-cited-gt32 c = tie_no_entry c.args.ix.now c.args.ix.now c.args.lookups.now _ c.col.ensures c.if-col-eq0.false c.col-2.ensures c.if-col-eq0-2.false refl c.if-cited-eq0.false c.if-cited-gt32.true

pub returns-then-col-eq0-3 : goal.returns-then-col-eq0-3
returns-then-col-eq0-3 c = tie_private c.args.ix.now c.args.ix.now c.args.lookups.now _ c.col.ensures c.if-col-eq0.false c.col-2.ensures c.if-col-eq0-2.false refl c.if-cited-eq0.false c.if-cited-gt32.false c.col-3.ensures c.if-col-eq0-3.true

pub returns-else-col-eq0-3 : goal.returns-else-col-eq0-3
returns-else-col-eq0-3 c = tie_named c.args.ix.now c.args.ix.now c.args.lookups.now _ c.col.ensures c.if-col-eq0.false c.col-2.ensures c.if-col-eq0-2.false refl c.if-cited-eq0.false c.if-cited-gt32.false c.col-3.ensures c.if-col-eq0-3.false
