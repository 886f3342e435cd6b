-- The proof of `written::put_decimal`, which calls itself; the measure is the number. One below ten is its digit; another is the digits of its tenth,
-- which the call of itself puts, and its last digit.
-- Assumes nothing.
use native.Mathlib.Omega.{arith}
use Rattle.written.proofs.Digits.{one_long, more_long, put_digit, put_last}
use Rattle.written.proofs.+put_decimal.Goals as goal

pub bounds-out-at : goal.bounds-out-at
bounds-out-at t c = omega (arith, one_long c.args.n c.if-n-lt10.true, c.requires.1)

pub returns-then-n-lt10 : goal.returns-then-n-lt10
returns-then-n-lt10 t c =
    put_digit _ _ _ _ c.if-n-lt10.true c.digit.ensures (omega (arith, one_long c.args.n c.if-n-lt10.true, c.requires.0, c.requires.1))

pub put_decimal-end-requires : goal.put_decimal-end-requires
put_decimal-end-requires t c = (
  omega (arith, c.decreases, c.if-n-lt10.false),
  (c.requires.0, omega (arith, more_long c.args.n c.if-n-lt10.false c.ranges.n.fits, c.requires.1)),
)

pub bounds-out-end : goal.bounds-out-end
bounds-out-end t c = omega (arith, more_long c.args.n c.if-n-lt10.false c.ranges.n.fits, c.requires.1, c.put_decimal-end.ensures.ends)

pub returns : goal.returns
returns t c =
    put_last _ _ c.if-n-lt10.false c.ranges.n.fits c.put_decimal-end.ensures c.digit-2.ensures
    (omega (arith, more_long c.args.n c.if-n-lt10.false c.ranges.n.fits, c.requires.0, c.requires.1, c.put_decimal-end.ensures.ends))
