-- `written::event_line` meets its contract: the number, what is told of the event and the line feed are put one after another into zeros.
-- Assumes nothing.
use mathlib.Core.Path.{◌∙◌}
use native.Mathlib.Omega.{arith}
use mir.Facts.{to_z-of_z}
use Rattle.written.specs.laws.Put.{put_more, put_same, put_length, put_padded, zeros_long}
use Rattle.written.proofs.laws.Decimal.{decimal_few}
use Rattle.written.proofs.Parts.{placed_line, dropped_line}
use Rattle.written.proofs.event_line.Goals as goal

pub put_decimal-a-requires : goal.put_decimal-a-requires
put_decimal-a-requires c = (zeros_long 96, omega (arith, decimal_few 19 c.args.k (omega (arith, c.ranges.k))))

pub put_placed-b-requires : goal.put_placed-b-requires
put_placed-b-requires c = let a = c.put_decimal-a.ensures in
    (put_length a ∙ zeros_long 96, omega (arith, decimal_few 19 c.args.k (omega (arith, c.ranges.k))))

pub put-requires : goal.put-requires
put-requires c = let a = c.put_decimal-a.ensures in
    let b = rw (to_z-of_z c.ranges.time) at c.put_placed-b.ensures in
    omega (arith, put_length b.1 ∙ (put_length a ∙ zeros_long 96), b.0, decimal_few 19 c.args.k (omega (arith, c.ranges.k)))

pub returns-then-kind-lt4 : goal.returns-then-kind-lt4
returns-then-kind-lt4 c = let a = c.put_decimal-a.ensures in
    let b = rw (to_z-of_z c.ranges.time) at c.put_placed-b.ensures in
    let d = c.put.ensures in
    put_padded 96 (put_same (placed_line _ _ _ _ c.if-kind-lt4.true) (put_more a (put_more b.1 d)))

pub put_dropped-b-requires : goal.put_dropped-b-requires
put_dropped-b-requires c = let a = c.put_decimal-a.ensures in
    (put_length a ∙ zeros_long 96, omega (arith, decimal_few 19 c.args.k (omega (arith, c.ranges.k))))

pub put-requires-2 : goal.put-requires-2
put-requires-2 c = let a = c.put_decimal-a.ensures in
    let b = c.put_dropped-b.ensures in
    omega (arith, put_length b.1 ∙ (put_length a ∙ zeros_long 96), b.0, decimal_few 19 c.args.k (omega (arith, c.ranges.k)))

pub returns : goal.returns
returns c = let a = c.put_decimal-a.ensures in
    let b = c.put_dropped-b.ensures in
    let d = c.put-2.ensures in
    put_padded 96 (put_same (dropped_line _ _ _ _ c.if-kind-lt4.false) (put_more a (put_more b.1 d)))
