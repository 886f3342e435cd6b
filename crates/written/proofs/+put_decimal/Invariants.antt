-- The proof of `written::put_decimal`, which calls itself; the measure is the number. One below ten is its digit; another is the digits of its tenth,
-- which the call of itself puts, and its last digit.
-- Assumes nothing.
use Rattle.written.proofs.+put_decimal.Given as goal

abbrev pub decreases-put_decimal : goal.decreases-put_decimal
decreases-put_decimal l = l.n
