-- `once::rising` meets its contract: the invariant is that the numbers up to place k rise, and of numbers that rise each is less than all after it. Assumes nothing.
use mathlib.Core.Bool.{true≢false}
use mathlib.Core.Path.{sym}
use native.Mathlib.Omega.{arith}
use Rattle.once.proofs.Twice.{rises_none, rises_more, rises_once}
use Rattle.once.proofs.rising.Goals as goal

pub loop-k-init : goal.loop-k-init
loop-k-init c = (omega arith, rises_none c.args.table.now)

pub offset_bounds-table-k : goal.offset_bounds-table-k
offset_bounds-table-k c = omega (arith, c.requires.1)

pub bounds-table-k : goal.bounds-table-k
bounds-table-k c = omega (arith, c.requires.1)

pub overflow_sub-k : goal.overflow_sub-k
overflow_sub-k c = omega arith

pub offset_bounds-table-k-in-loop-k : goal.offset_bounds-table-k-in-loop-k
offset_bounds-table-k-in-loop-k c = omega (arith, c.requires.1)

pub bounds-table-k-in-loop-k : goal.bounds-table-k-in-loop-k
bounds-table-k-in-loop-k c = omega (arith, c.requires.1)

pub returns-then-table-k : goal.returns-then-table-k
returns-then-table-k c = λ e. absurd (true≢false (sym e))

pub overflow_add-k : goal.overflow_add-k
overflow_add-k c = omega (arith, c.requires.1)

pub loop-k-preserved : goal.loop-k-preserved
loop-k-preserved c = (omega arith, rises_more c.args.table.now c.loop-k.invariant.0 c.loop-k.invariant.1 c.if-table-k.false)

pub returns : goal.returns
returns c = λ _. rises_once c.args.table.now c.requires.0 c.requires.1 (λ j h. c.loop-k.invariant.1 j (omega (arith, c.loop-k-test.false)))
