-- `written::put_trace` meets its contract, case by case; a clock has at most five digits.
-- Assumes nothing.
use native.Mathlib.Omega.{arith}
use Rattle.written.proofs.laws.Decimal.{decimal_few}
use Rattle.written.specs.laws.Put.{put_same}
use Rattle.written.proofs.Parts.{no_trace, on_clock}
use Rattle.written.proofs.put_trace.Goals as goal

pub put_decimal-requires : goal.put_decimal-requires
put_decimal-requires c = (c.requires.0, omega (arith, c.requires.1, decimal_few 4 c.in-Some.clock.0 (omega arith)))

pub returns-in-None : goal.returns-in-None
returns-in-None c = let a = c.put.ensures in
    (omega arith, put_same (no_trace c.in-None.is) a)

pub returns-in-Some : goal.returns-in-Some
returns-in-Some c = let a = c.put_decimal.ensures in
    (omega (arith, decimal_few 4 c.in-Some.clock.0 (omega arith)), put_same (on_clock c.in-Some.is) a)
