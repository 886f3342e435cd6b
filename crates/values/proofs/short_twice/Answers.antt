-- `values::short_twice` meets its contract: the loop keeps that the n bytes passed can be passed. With the same letter after it each backslash begins the same escape, so both are read as one character, and two bytes more can be.
-- Assumes nothing.
use mathlib.Core.Path.{sym, ◌∙◌}
use native.Mathlib.Omega.{arith}
use Rattle.text.specs.laws.Escapes.{short_reads}
use Rattle.text.specs.laws.Peek.{found_in}
use Rattle.values.proofs.Compare.{ahead, passed_none, passed_join, passed_short}
use Rattle.values.proofs.short_twice.Goals as goal

pub loop-i-init : goal.loop-i-init
loop-i-init c = passed_none _ _ _

pub overflow_add-i : goal.overflow_add-i
overflow_add-i c = omega (arith, c.loop-i.invariant.left)

pub overflow_add-k : goal.overflow_add-k
overflow_add-k c = omega (arith, c.loop-i.invariant.right)

pub returns-then-byte-ne92 : goal.returns-then-byte-ne92
returns-then-byte-ne92 c = c.loop-i.invariant

pub overflow_add-i-in-loop-i : goal.overflow_add-i-in-loop-i
overflow_add-i-in-loop-i c = omega (arith, c.loop-i.invariant.left)

pub overflow_add-i-in-loop-i-2 : goal.overflow_add-i-in-loop-i-2
overflow_add-i-in-loop-i-2 c = omega (arith, (ahead _ (short_reads _ _ c.short.ensures c.loop-i-test.true)).1)

pub overflow_add-k-in-loop-i : goal.overflow_add-k-in-loop-i
overflow_add-k-in-loop-i c = omega (arith, c.loop-i.invariant.right)

pub overflow_add-k-in-loop-i-2 : goal.overflow_add-k-in-loop-i-2
overflow_add-k-in-loop-i-2 c = omega (arith, found_in _ _ c.byte.ensures c.if-byte-ne92.false tt)

pub returns-then-byte : goal.returns-then-byte
returns-then-byte c = c.loop-i.invariant

pub overflow_add-n : goal.overflow_add-n
overflow_add-n c = omega (arith, (ahead _ (short_reads _ _ c.short.ensures c.loop-i-test.true)).1)

pub loop-i-smaller : goal.loop-i-smaller
loop-i-smaller c = omega (arith, (ahead _ (short_reads _ _ c.short.ensures c.loop-i-test.true)).1)

pub loop-i-preserved : goal.loop-i-preserved
loop-i-preserved c = passed_join _ _ _ c.loop-i.invariant (passed_short _ _ _ c.short.ensures c.loop-i-test.true (sym c.byte.ensures ∙ c.if-byte-ne92.false) c.byte-in-loop-i.ensures c.byte-in-loop-i-2.ensures c.if-byte.false)

pub returns : goal.returns
returns c = c.loop-i.invariant
