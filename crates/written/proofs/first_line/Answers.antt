-- `written::first_line` meets its contract: the parts of either line are put one after another into zeros.
-- Assumes nothing.
use mathlib.Core.Path.{ap, ◌∙◌}
use native.Mathlib.Omega.{arith}
use Rattle.written.specs.Written.{numbered}
use Rattle.written.specs.laws.Put.{put_more, put_same, put_length, put_padded, zeros_long}
use Rattle.written.proofs.laws.Decimal.{decimal_few}
use Rattle.written.proofs.Parts.{refused_line, merged_line}
use Rattle.written.proofs.first_line.Goals as goal

pub put-requires : goal.put-requires
put-requires c = let a = c.put_summary-a.ensures in
    omega (arith, put_length a.1 ∙ zeros_long 96, a.0)

pub returns-in-Ok : goal.returns-in-Ok
returns-in-Ok c = let a = c.put_summary-a.ensures in
    let b = c.put.ensures in
    put_padded 96 (put_same (merged_line (ap numbered c.in-Ok.is)) (put_more a.1 b))

pub put_decimal-b-requires : goal.put_decimal-b-requires
put_decimal-b-requires c = let a = c.put-a.ensures in
    (put_length a ∙ zeros_long 96, omega (arith, decimal_few 2 c.in-Err.number (omega arith)))

pub put-requires-in-Err : goal.put-requires-in-Err
put-requires-in-Err c = let a = c.put-a.ensures in
    let b = c.put_decimal-b.ensures in
    omega (arith, put_length b ∙ (put_length a ∙ zeros_long 96), decimal_few 2 c.in-Err.number (omega arith))

pub returns-in-Err : goal.returns-in-Err
returns-in-Err c = let a = c.put-a.ensures in
    let b = c.put_decimal-b.ensures in
    let d = c.put-in-Err.ensures in
    put_padded 96 (put_same (refused_line (ap numbered c.in-Err.is)) (put_more a (put_more b d)))
