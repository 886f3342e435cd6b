-- `written::put_summary` meets its contract: the six parts are put one after another, and each has room after those before it.
-- Assumes nothing.
use mathlib.Core.Path.{◌∙◌}
use native.Mathlib.Omega.{arith}
use Rattle.written.specs.laws.Put.{put_more, put_length}
use Rattle.written.proofs.laws.Decimal.{decimal_few}
use Rattle.written.proofs.put_summary.Goals as goal

pub put_decimal-b-requires : goal.put_decimal-b-requires
put_decimal-b-requires c = let a = c.put-a.ensures in
    (put_length a ∙ c.requires, omega (arith, decimal_few 2 c.args.files (omega (arith, c.ranges.files))))

pub put-c-requires : goal.put-c-requires
put-c-requires c = let a = c.put-a.ensures in
    let b = c.put_decimal-b.ensures in
    omega (arith, put_length b ∙ (put_length a ∙ c.requires), decimal_few 2 c.args.files (omega (arith, c.ranges.files)))

pub put_decimal-d-requires : goal.put_decimal-d-requires
put_decimal-d-requires c = let a = c.put-a.ensures in
    let b = c.put_decimal-b.ensures in
    let d = c.put-c.ensures in (
      put_length d ∙ (put_length b ∙ (put_length a ∙ c.requires)),
      omega (arith, decimal_few 2 c.args.files (omega (arith, c.ranges.files)), decimal_few 2 c.args.machines (omega (arith, c.ranges.machines))),
    )

pub put-e-requires : goal.put-e-requires
put-e-requires c = let a = c.put-a.ensures in
    let b = c.put_decimal-b.ensures in
    let d = c.put-c.ensures in
    let e = c.put_decimal-d.ensures in omega (arith, put_length e ∙ (put_length d ∙ (put_length b ∙ (put_length a ∙ c.requires))), decimal_few 2 c.args.files (omega (arith, c.ranges.files)), decimal_few 2 c.args.machines (omega (arith, c.ranges.machines)))

pub put_trace-requires : goal.put_trace-requires
put_trace-requires c = let a = c.put-a.ensures in
    let b = c.put_decimal-b.ensures in
    let d = c.put-c.ensures in
    let e = c.put_decimal-d.ensures in
    let f = c.put-e.ensures in (
      put_length f ∙ (put_length e ∙ (put_length d ∙ (put_length b ∙ (put_length a ∙ c.requires)))),
      omega (arith, decimal_few 2 c.args.files (omega (arith, c.ranges.files)), decimal_few 2 c.args.machines (omega (arith, c.ranges.machines))),
    )

pub returns : goal.returns
returns c = let a = c.put-a.ensures in
    let b = c.put_decimal-b.ensures in
    let d = c.put-c.ensures in
    let e = c.put_decimal-d.ensures in
    let f = c.put-e.ensures in
    let g = c.put_trace.ensures in (
      omega (arith, g.0, decimal_few 2 c.args.files (omega (arith, c.ranges.files)), decimal_few 2 c.args.machines (omega (arith, c.ranges.machines))),
      put_more a (put_more b (put_more d (put_more e (put_more f g.1)))),
    )
