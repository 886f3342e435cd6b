-- `fills::too_many` meets its contract: the invariant is that the entries from number i on decide; the counts are read off the index.
-- Assumes nothing.
use native.Mathlib.Omega.{arith}
use Rattle.fills.proofs.Counted.{many_entries, many_left, many_here, many_on, many_none}
use Rattle.fills.proofs.too_many.Goals as goal

pub returns-then-n-gt32 : goal.returns-then-n-gt32
returns-then-n-gt32 c = λ s v e. many_entries s v e c.if-n-gt32.true

pub loop-i-init : goal.loop-i-init
loop-i-init c = (omega arith, λ s v e. many_left s v e c.if-n-gt32.false)

pub overflow_mul-i : goal.overflow_mul-i
overflow_mul-i c = omega arith

pub overflow_add-i : goal.overflow_add-i
overflow_add-i c = omega arith

pub overflow_add-i-in-loop-i : goal.overflow_add-i-in-loop-i
overflow_add-i-in-loop-i c = omega arith

pub bounds-ix-i : goal.bounds-ix-i
bounds-ix-i c = omega arith

pub returns-then-ix-i-gt32 : goal.returns-then-ix-i-gt32
returns-then-ix-i-gt32 c = λ s v e. many_here s v e c.if-n-gt32.false (c.loop-i.invariant.1 s v e) c.loop-i-test.true c.if-ix-i-gt32.true

pub loop-i-preserved : goal.loop-i-preserved
loop-i-preserved c = (omega arith, λ s v e. many_on s v e c.if-n-gt32.false (c.loop-i.invariant.1 s v e) c.loop-i-test.true c.if-ix-i-gt32.false)

pub returns : goal.returns
returns c = λ s v e. many_none s v e c.if-n-gt32.false (c.loop-i.invariant.1 s v e) c.loop-i.invariant.0 c.loop-i-test.false
