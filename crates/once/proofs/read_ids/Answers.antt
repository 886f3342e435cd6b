-- `once::read_ids` meets its contract: the invariant is that the table holds the ids of the first k items, and that those left decide whether one is out of range. Assumes nothing.
use mathlib.Core.Bool.{true≢false}
use native.Mathlib.Omega.{arith}
use Rattle.once.proofs.Twice.{reading_start, reading_out, reading_on, reading_ranged, reading_done, items_few}
use Rattle.once.proofs.read_ids.Goals as goal

pub loop-k-init : goal.loop-k-init
loop-k-init c = (omega arith, reading_start c.args.s.now c.args.ix.now c.args.i c.requires)

pub returns-then-v-gt4294967296 : goal.returns-then-v-gt4294967296
returns-then-v-gt4294967296 c = (reading_out c.args.s.now c.args.ix.now c.args.i c.items-n.ensures c.loop-k.invariant.1 c.loop-k-test.true c.item.ensures c.id_number-v.ensures c.if-v-gt4294967296.true, c.loop-k.invariant.1.long, λ e. absurd (true≢false e))

pub offset_bounds-table-k : goal.offset_bounds-table-k
offset_bounds-table-k c = omega (arith, items_few c.args.s.now c.args.ix.now c.args.i c.items-n.ensures)

pub bounds-table-k : goal.bounds-table-k
bounds-table-k c = omega (arith, items_few c.args.s.now c.args.ix.now c.args.i c.items-n.ensures)

pub loop-k-preserved : goal.loop-k-preserved
loop-k-preserved c = (omega arith, reading_on c.args.s.now c.args.ix.now c.args.i c.items-n.ensures c.loop-k.invariant.1 c.loop-k-test.true c.item.ensures _ c.id_number-v.ensures c.if-v-gt4294967296.false)

pub returns : goal.returns
returns c = (reading_ranged c.args.s.now c.args.ix.now c.args.i c.items-n.ensures c.loop-k.invariant.1 c.loop-k-test.false, c.loop-k.invariant.1.long, λ _. reading_done c.args.s.now c.args.ix.now c.args.i c.items-n.ensures c.loop-k.invariant.1 c.loop-k.invariant.0 c.loop-k-test.false)
