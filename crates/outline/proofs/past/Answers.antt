-- `outline::past` meets its contract. The loop's invariant: the first k bytes of the word were read up to i. A byte of the word is read as itself or by an escape of a number; where it
-- is not, the string begins otherwise. Assumes nothing.
use native.Mathlib.Omega.{arith}
use Rattle.text.specs.laws.Peek.{found_lt}
use Rattle.outline.proofs.Words.{letter_at, read_within, escaped_reads, escaped_other, plain_reads, plain_other, along_start, along_more, along_other, along_end}
use Rattle.outline.proofs.past.Goals as goal

pub loop-k-init : goal.loop-k-init
loop-k-init c = along_start _ _ _ c.requires.0

pub returns-then-ascii_escape-c : goal.returns-then-ascii_escape-c
returns-then-ascii_escape-c c = along_other _ _ _ _ _ c.loop-k.invariant c.loop-k-test.true c.byte-c.ensures (letter_at _ _ c.byte-c.ensures c.requires.1 c.loop-k-test.true) (escaped_other _ _ (letter_at _ _ c.byte-c.ensures c.requires.1 c.loop-k-test.true) c.byte-b.ensures c.if-b-eq92.true c.ascii_escape.ensures c.if-ascii_escape-c.true)

pub overflow_add-i : goal.overflow_add-i
overflow_add-i c = omega (arith, read_within _ _ (escaped_reads _ _ (letter_at _ _ c.byte-c.ensures c.requires.1 c.loop-k-test.true) c.byte-b.ensures c.if-b-eq92.true c.ascii_escape.ensures c.if-ascii_escape-c.false) (found_lt c.args.s.now _ c.byte-b.ensures c.if-b-eq92.true (omega arith)))

pub loop-k-smaller-then-b-eq92 : goal.loop-k-smaller-then-b-eq92
loop-k-smaller-then-b-eq92 c = omega (arith, c.loop-k-test.true)

pub loop-k-preserved-then-b-eq92 : goal.loop-k-preserved-then-b-eq92
loop-k-preserved-then-b-eq92 c = along_more _ _ _ _ _ c.loop-k.invariant c.loop-k-test.true c.byte-c.ensures (letter_at _ _ c.byte-c.ensures c.requires.1 c.loop-k-test.true) (omega arith) (escaped_reads _ _ (letter_at _ _ c.byte-c.ensures c.requires.1 c.loop-k-test.true) c.byte-b.ensures c.if-b-eq92.true c.ascii_escape.ensures c.if-ascii_escape-c.false)

pub returns-then-b-c : goal.returns-then-b-c
returns-then-b-c c = along_other _ _ _ _ _ c.loop-k.invariant c.loop-k-test.true c.byte-c.ensures (letter_at _ _ c.byte-c.ensures c.requires.1 c.loop-k-test.true) (plain_other _ _ (letter_at _ _ c.byte-c.ensures c.requires.1 c.loop-k-test.true) c.byte-b.ensures c.if-b-eq92.false c.if-b-c.true)

pub overflow_add-i-in-loop-k : goal.overflow_add-i-in-loop-k
overflow_add-i-in-loop-k c = omega (arith, found_lt c.args.s.now _ c.byte-b.ensures c.if-b-c.false (omega (arith, (letter_at _ _ c.byte-c.ensures c.requires.1 c.loop-k-test.true).high)))

pub loop-k-smaller : goal.loop-k-smaller
loop-k-smaller c = omega (arith, c.loop-k-test.true)

pub loop-k-preserved : goal.loop-k-preserved
loop-k-preserved c = along_more _ _ _ _ _ c.loop-k.invariant c.loop-k-test.true c.byte-c.ensures (letter_at _ _ c.byte-c.ensures c.requires.1 c.loop-k-test.true) (omega arith) (plain_reads _ _ (letter_at _ _ c.byte-c.ensures c.requires.1 c.loop-k-test.true) c.byte-b.ensures c.if-b-c.false)

pub returns : goal.returns
returns c = along_end _ _ _ _ _ c.loop-k.invariant c.loop-k-test.false
