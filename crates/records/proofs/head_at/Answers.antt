-- `head_at` gives the file record that is laid out at the position: each field taken is the number that its bits write, since the cursor stands where the last field ended. Assumes nothing.
use Rattle.records.proofs.Takes.{field_lt}
use Rattle.records.specs.Readers.{head_at}
use Rattle.records.specs.Layout.{pick}
use Rattle.bits.specs.laws.Fields.{take_in}
use borrow.Author.Tests.{lt-ltb, le-ltb}
use Prim.Native.Nat.{◌+◌, ◌<◌}
use native.Mathlib.Omega.{arith}
use Rattle.records.proofs.head_at.Goals as goal

pub returns-then-at-ge-FAR : goal.returns-then-at-ge-FAR
unfolding head_at pick
returns-then-at-ge-FAR c = simp (le-ltb c.args.at 0x1000000000 c.if-at-ge-FAR.true) (λ i. record { container = c.default.ensures.0 i; claim = c.default.ensures.1.0 i; length = c.default.ensures.1.1 i })

pub overflow_cast-result : goal.overflow_cast-result
overflow_cast-result c = omega (arith, field_lt c.args.s.now c.take-container.result.next.at 3 c.take-claim.ensures)

pub overflow_cast-result-2 : goal.overflow_cast-result-2
overflow_cast-result-2 c = omega (arith, field_lt c.args.s.now c.take-claim.result.next.at 8 c.take-length.ensures)

pub returns : goal.returns
unfolding head_at pick
returns c = let h : c.args.at < 0x1000000000 = omega arith in rw (lt-ltb c.args.at 0x1000000000 h, c.take-length.ensures, c.take-claim.ensures, c.take-container.ensures, c.take-kind.ensures, take_in c.args.s.now c.args.at 3 (omega arith) (omega arith), take_in c.args.s.now (c.args.at + 3) 1 (omega arith) (omega arith), take_in c.args.s.now (c.args.at + 3 + 1) 3 (omega arith) (omega arith), take_in c.args.s.now (c.args.at + 3 + 1 + 3) 8 (omega arith) (omega arith))
