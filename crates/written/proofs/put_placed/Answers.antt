-- `written::put_placed` meets its contract: the six parts are put one after another, and each has room after those before it.
-- Assumes nothing.
use mathlib.Core.Path.{◌∙◌}
use native.Mathlib.Omega.{arith}
use mir.Facts.{to_z-of_z}
use Rattle.written.specs.laws.Put.{put_more, put_length}
use Rattle.written.proofs.laws.Decimal.{decimal_few}
use Rattle.written.proofs.laws.Signed.{signed_few}
use Rattle.written.proofs.put_placed.Goals as goal

pub put_signed-b-requires : goal.put_signed-b-requires
put_signed-b-requires c = let a = c.put-a.ensures in
    (put_length a ∙ c.requires.0, rw (to_z-of_z c.ranges.time) (omega (arith, c.requires.1, signed_few c.args.time c.ranges.time)))

pub put-c-requires : goal.put-c-requires
put-c-requires c = let a = c.put-a.ensures in
    let b = rw (to_z-of_z c.ranges.time) at c.put_signed-b.ensures in
    omega (arith, put_length b ∙ (put_length a ∙ c.requires.0), c.requires.1, signed_few c.args.time c.ranges.time)

pub put_decimal-d-requires : goal.put_decimal-d-requires
put_decimal-d-requires c = let a = c.put-a.ensures in
    let b = rw (to_z-of_z c.ranges.time) at c.put_signed-b.ensures in
    let d = c.put-c.ensures in (
      put_length d ∙ (put_length b ∙ (put_length a ∙ c.requires.0)),
      omega (arith, c.requires.1, signed_few c.args.time c.ranges.time, decimal_few 2 c.args.graph (omega (arith, c.ranges.graph))),
    )

pub put-e-requires : goal.put-e-requires
put-e-requires c = let a = c.put-a.ensures in
    let b = rw (to_z-of_z c.ranges.time) at c.put_signed-b.ensures in
    let d = c.put-c.ensures in
    let e = c.put_decimal-d.ensures in omega (arith, put_length e ∙ (put_length d ∙ (put_length b ∙ (put_length a ∙ c.requires.0))), c.requires.1, signed_few c.args.time c.ranges.time, decimal_few 2 c.args.graph (omega (arith, c.ranges.graph)))

pub put_decimal-requires : goal.put_decimal-requires
put_decimal-requires c = let a = c.put-a.ensures in
    let b = rw (to_z-of_z c.ranges.time) at c.put_signed-b.ensures in
    let d = c.put-c.ensures in
    let e = c.put_decimal-d.ensures in
    let f = c.put-e.ensures in (
      put_length f ∙ (put_length e ∙ (put_length d ∙ (put_length b ∙ (put_length a ∙ c.requires.0)))),
      omega (
        arith,
        c.requires.1,
        signed_few c.args.time c.ranges.time,
        decimal_few 2 c.args.graph (omega (arith, c.ranges.graph)),
        decimal_few 4 c.args.steps (omega (arith, c.ranges.steps)),
      ),
    )

pub returns : goal.returns
returns c = let a = c.put-a.ensures in
    let b = rw (to_z-of_z c.ranges.time) at c.put_signed-b.ensures in
    let d = c.put-c.ensures in
    let e = c.put_decimal-d.ensures in
    let f = c.put-e.ensures in
    let g = c.put_decimal.ensures in (
      omega (
        arith,
        signed_few c.args.time c.ranges.time,
        decimal_few 2 c.args.graph (omega (arith, c.ranges.graph)),
        decimal_few 4 c.args.steps (omega (arith, c.ranges.steps)),
      ),
      put_more a (put_more b (put_more d (put_more e (put_more f g)))),
    )
