-- `once::number_of` meets its contract: the two tests are those of the rule; an id in range is not negative, and one more than it is far from 64 bits. Assumes nothing.
use native.Mathlib.Omega.{arith}
use Rattle.once.proofs.Twice.{id_bits, id_small, is_ranged, low_number, high_number, ranged_number}
use Rattle.once.proofs.number_of.Goals as goal

pub returns-then-z-lt0 : goal.returns-then-z-lt0
returns-then-z-lt0 c = low_number c.args.z c.ranges.z c.if-z-lt0.true

pub returns-then-z-gt4294967295 : goal.returns-then-z-gt4294967295
returns-then-z-gt4294967295 c = high_number c.args.z c.ranges.z c.if-z-lt0.false c.if-z-gt4294967295.true

pub overflow_cast-result : goal.overflow_cast-result
overflow_cast-result c = rw (id_bits c.args.z (is_ranged c.args.z c.ranges.z c.if-z-lt0.false c.if-z-gt4294967295.false) c.ranges.z) (tt, record { fits = omega (arith, id_small c.args.z (is_ranged c.args.z c.ranges.z c.if-z-lt0.false c.if-z-gt4294967295.false)) })

pub overflow_add-result : goal.overflow_add-result
overflow_add-result c = rw (id_bits c.args.z (is_ranged c.args.z c.ranges.z c.if-z-lt0.false c.if-z-gt4294967295.false) c.ranges.z) (omega (arith, id_small c.args.z (is_ranged c.args.z c.ranges.z c.if-z-lt0.false c.if-z-gt4294967295.false)))

pub returns : goal.returns
returns c = rw (id_bits c.args.z (is_ranged c.args.z c.ranges.z c.if-z-lt0.false c.if-z-gt4294967295.false) c.ranges.z) (ranged_number c.args.z (is_ranged c.args.z c.ranges.z c.if-z-lt0.false c.if-z-gt4294967295.false))
