-- `source_at` gives the source record that is laid out at the position: each field taken is the number that its bits write. Assumes nothing.
use Rattle.records.proofs.Takes.{field_lt}
use Rattle.records.specs.Readers.{source_at}
use Rattle.records.specs.Layout.{pick}
use Rattle.bits.specs.laws.Fields.{take_in}
use borrow.Author.Tests.{lt-ltb, le-ltb}
use Prim.Native.Nat.{◌+◌, ◌<◌}
use native.Mathlib.Omega.{arith}
use Rattle.records.proofs.source_at.Goals as goal

pub returns-then-at-ge-FAR : goal.returns-then-at-ge-FAR
unfolding source_at pick
returns-then-at-ge-FAR c = simp (le-ltb c.args.at 0x1000000000 c.if-at-ge-FAR.true) (λ i. record { file = record { 0 = c.default.ensures.0 i }; id = c.default.ensures.1 i })

pub overflow_cast-result : goal.overflow_cast-result
overflow_cast-result c = omega (arith, field_lt c.args.s.now c.take-kind.result.next.at 5 c.take-file.ensures)

pub overflow_cast-result-2 : goal.overflow_cast-result-2
overflow_cast-result-2 c = omega (arith, field_lt c.args.s.now c.take-file.result.next.at 32 c.take-id.ensures)

pub returns : goal.returns
unfolding source_at pick
returns c = let h : c.args.at < 0x1000000000 = omega arith in rw (lt-ltb c.args.at 0x1000000000 h, c.take-id.ensures, c.take-file.ensures, c.take-kind.ensures, take_in c.args.s.now c.args.at 3 (omega arith) (omega arith), take_in c.args.s.now (c.args.at + 3) 5 (omega arith) (omega arith), take_in c.args.s.now (c.args.at + 3 + 5) 32 (omega arith) (omega arith))
