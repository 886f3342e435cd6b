-- `once::number_among` meets its contract: 0 stands for no id; two other numbers stand for one id if they are the same, and the invariant is that those from place k on decide. Assumes nothing.
use native.Mathlib.Omega.{arith}
use Rattle.once.proofs.Twice.{among_none, among_start, among_found, among_on, among_past}
use Rattle.once.proofs.number_among.Goals as goal

pub returns-then-v-eq0 : goal.returns-then-v-eq0
returns-then-v-eq0 c = among_none c.args.table.now c.requires.0 c.requires.1 c.args.v _ c.if-v-eq0.true

pub loop-k-init : goal.loop-k-init
loop-k-init c = among_start c.args.table.now c.requires.0 c.requires.1 c.args.v _ c.if-v-eq0.false

pub offset_bounds-table-k : goal.offset_bounds-table-k
offset_bounds-table-k c = omega (arith, c.requires.1)

pub bounds-table-k : goal.bounds-table-k
bounds-table-k c = omega (arith, c.requires.1)

pub returns-then-table-k : goal.returns-then-table-k
returns-then-table-k c = among_found c.args.table.now c.requires.0 c.requires.1 c.args.v c.loop-k.invariant c.loop-k-test.true c.if-table-k.true

pub overflow_add-k : goal.overflow_add-k
overflow_add-k c = omega (arith, c.requires.1)

pub loop-k-preserved : goal.loop-k-preserved
loop-k-preserved c = among_on c.args.table.now c.requires.0 c.requires.1 c.args.v c.loop-k.invariant c.loop-k-test.true c.if-table-k.false

pub returns : goal.returns
returns c = among_past c.args.table.now c.requires.0 c.requires.1 c.args.v c.loop-k.invariant c.loop-k-test.false
