-- `values::within` meets its contract: each test of the number is the definition's test of the integer, and !(n - 1) reads as -n.
-- Assumes nothing.
use native.Mathlib.Omega.{arith}
use Rattle.text.specs.Reading.{pick}
use Rattle.values.proofs.Digits.{within_zero, within_minus, within_below, within_in, within_above}
use Rattle.values.proofs.within.Goals as goal

pub returns-then-n-eq0 : goal.returns-then-n-eq0
unfolding pick
returns-then-n-eq0 c = simp (c.if-negative.true, c.if-n-eq0.true) within_zero

pub returns-then-n-le9223372036854775808 : goal.returns-then-n-le9223372036854775808
unfolding pick
returns-then-n-le9223372036854775808 c = simp c.if-negative.true (within_minus c.args.n c.if-n-eq0.false c.if-n-le9223372036854775808.true)

pub returns-else-n-le9223372036854775808 : goal.returns-else-n-le9223372036854775808
unfolding pick
returns-else-n-le9223372036854775808 c = simp c.if-negative.true (within_below c.args.n (omega arith))

pub returns-then-n-lt9223372036854775808 : goal.returns-then-n-lt9223372036854775808
unfolding pick
returns-then-n-lt9223372036854775808 c = simp c.if-negative.false (within_in c.args.n c.if-n-lt9223372036854775808.true)

pub returns-else-n-lt9223372036854775808 : goal.returns-else-n-lt9223372036854775808
unfolding pick
returns-else-n-lt9223372036854775808 c = simp c.if-negative.false (within_above c.args.n c.if-n-lt9223372036854775808.false)
