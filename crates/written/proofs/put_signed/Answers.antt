-- `written::put_signed` meets its contract: a pattern below 2^63 is the number, another lacks the number's distance from zero to 2^64.
-- Assumes nothing.
use mathlib.Core.Path.{ap, ◌∙◌}
use native.Mathlib.Omega.{arith}
use lib.ListN.{length}
use mir.Facts.{to_z-of_z}
use Rattle.written.specs.laws.Put.{put_more, put_same, put_length}
use Rattle.written.proofs.laws.Signed.{signed_low, signed_high}
use Rattle.written.proofs.put_signed.Goals as goal

pub put_decimal-requires : goal.put_decimal-requires
put_decimal-requires c = let e = rw (to_z-of_z c.ranges.z) at c.pattern_of-p.ensures in
    let l = signed_low _ _ c.ranges.z e c.if-p-lt9223372036854775808.true in
    (c.requires.0, omega (arith, ap length l, c.requires.1))

pub returns-then-p-lt9223372036854775808 : goal.returns-then-p-lt9223372036854775808
returns-then-p-lt9223372036854775808 c = let e = rw (to_z-of_z c.ranges.z) at c.pattern_of-p.ensures in
    let l = signed_low _ _ c.ranges.z e c.if-p-lt9223372036854775808.true in
    put_same l c.put_decimal.ensures

pub put-next-requires : goal.put-next-requires
put-next-requires c = let e = rw (to_z-of_z c.ranges.z) at c.pattern_of-p.ensures in
    let l = signed_high _ _ c.ranges.z e c.if-p-lt9223372036854775808.false in
    omega (arith, c.requires.0, ap length l, c.requires.1)

pub put_decimal-requires-2 : goal.put_decimal-requires-2
put_decimal-requires-2 c = let e = rw (to_z-of_z c.ranges.z) at c.pattern_of-p.ensures in
    let l = signed_high _ _ c.ranges.z e c.if-p-lt9223372036854775808.false in
    let a = c.put-next.ensures in
    (put_length a ∙ c.requires.0, omega (arith, ap length l, c.requires.1))

pub returns : goal.returns
returns c = let e = rw (to_z-of_z c.ranges.z) at c.pattern_of-p.ensures in
    let l = signed_high _ _ c.ranges.z e c.if-p-lt9223372036854775808.false in
    put_same l (put_more c.put-next.ensures c.put_decimal-2.ensures)
