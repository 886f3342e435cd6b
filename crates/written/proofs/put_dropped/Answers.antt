-- `written::put_dropped` meets its contract: the number is put after the word.
-- Assumes nothing.
use mathlib.Core.Path.{◌∙◌}
use native.Mathlib.Omega.{arith}
use Rattle.written.specs.laws.Put.{put_more, put_length}
use Rattle.written.proofs.laws.Decimal.{decimal_few}
use Rattle.written.proofs.put_dropped.Goals as goal

pub put_decimal-requires : goal.put_decimal-requires
put_decimal-requires c = let a = c.put-a.ensures in
    (put_length a ∙ c.requires.0, omega (arith, c.requires.1, decimal_few 2 c.args.drop (omega (arith, c.ranges.drop))))

pub returns : goal.returns
returns c = let a = c.put-a.ensures in
    let b = c.put_decimal.ensures in
    (omega (arith, decimal_few 2 c.args.drop (omega (arith, c.ranges.drop))), put_more a b)
