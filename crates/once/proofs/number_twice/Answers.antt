-- `once::number_twice` meets its contract: of numbers that rise no two are the same; else the invariant is that the numbers from place k on decide. Assumes nothing.
use mathlib.Core.Path.{refl, sym}
use native.Mathlib.Omega.{arith}
use Rattle.once.proofs.Twice.{twice_found, twice_on, twice_past}
use Rattle.once.proofs.number_twice.Goals as goal

pub rising-requires : goal.rising-requires
rising-requires c = (c.requires.0, c.requires.1)

pub returns-then-rising : goal.returns-then-rising
returns-then-rising c = sym (c.rising.ensures c.if-rising.true)

pub loop-k-init : goal.loop-k-init
loop-k-init c = refl

pub offset_bounds-table-k : goal.offset_bounds-table-k
offset_bounds-table-k c = omega (arith, c.requires.1)

pub bounds-table-k : goal.bounds-table-k
bounds-table-k c = omega (arith, c.requires.1)

pub overflow_add-k : goal.overflow_add-k
overflow_add-k c = omega (arith, c.requires.1)

pub number_among-requires : goal.number_among-requires
number_among-requires c = (c.requires.0, c.requires.1)

pub returns-then-number_among : goal.returns-then-number_among
returns-then-number_among c = twice_found c.args.table.now c.requires.0 c.requires.1 c.loop-k.invariant c.loop-k-test.true c.number_among.ensures c.if-number_among.true

pub overflow_add-k-in-loop-k : goal.overflow_add-k-in-loop-k
overflow_add-k-in-loop-k c = omega (arith, c.requires.1)

pub loop-k-preserved : goal.loop-k-preserved
loop-k-preserved c = twice_on c.args.table.now c.requires.0 c.requires.1 c.loop-k.invariant c.loop-k-test.true c.number_among.ensures c.if-number_among.false

pub returns : goal.returns
returns c = twice_past c.args.table.now c.requires.0 c.requires.1 c.loop-k.invariant c.loop-k-test.false
