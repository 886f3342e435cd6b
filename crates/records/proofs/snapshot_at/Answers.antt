-- `snapshot_at` gives the snapshot record that is laid out at the position; its readings are the 64 bits in two's complement. Assumes nothing.
use mir.Val.{SFits}
use mir.Syntax.{w64}
use mir.Facts.{to_z-of_z}
use Rattle.records.proofs.Takes.{field_lt}
use Rattle.records.specs.Readers.{snapshot_at}
use Rattle.records.specs.Layout.{pick}
use Rattle.bits.specs.laws.Fields.{take_in}
use borrow.Author.Tests.{lt-ltb, le-ltb}
use Prim.Native.Nat.{◌+◌, ◌<◌}
use native.Mathlib.Omega.{arith}
use Rattle.records.proofs.snapshot_at.Goals as goal

pub returns-then-at-ge-FAR : goal.returns-then-at-ge-FAR
unfolding snapshot_at pick
returns-then-at-ge-FAR c = simp (le-ltb c.args.at 0x1000000000 c.if-at-ge-FAR.true) (λ i. record { source = c.default.ensures.0 i; clock = c.default.ensures.1.0 i; reading = c.default.ensures.1.1.0 i; clock2 = c.default.ensures.1.1.1.0 i; reading2 = c.default.ensures.1.1.1.1 i })

pub overflow_cast-result : goal.overflow_cast-result
overflow_cast-result c = omega (arith, field_lt c.args.s.now c.take-kind.result.next.at 5 c.take-source.ensures)

pub overflow_cast-result-2 : goal.overflow_cast-result-2
overflow_cast-result-2 c = omega (arith, field_lt c.args.s.now c.take-source.result.next.at 3 c.take-clock.ensures)

pub overflow_cast-result-3 : goal.overflow_cast-result-3
overflow_cast-result-3 c = omega (arith, field_lt c.args.s.now c.take-reading.result.next.at 3 c.take-clock2.ensures)

pub returns : goal.returns
unfolding snapshot_at pick
returns c = let h : c.args.at < 0x1000000000 = omega arith in let f0 : SFits w64 c.cast_signed.result = record { sfits = c.cast_signed.type_inv } in let f1 : SFits w64 c.cast_signed-2.result = record { sfits = c.cast_signed-2.type_inv } in rw (lt-ltb c.args.at 0x1000000000 h, to_z-of_z f0, to_z-of_z f1, c.cast_signed-2.ensures, c.cast_signed.ensures, c.take-reading2.ensures, c.take-clock2.ensures, c.take-reading.ensures, c.take-clock.ensures, c.take-source.ensures, c.take-kind.ensures, take_in c.args.s.now c.args.at 3 (omega arith) (omega arith), take_in c.args.s.now (c.args.at + 3) 5 (omega arith) (omega arith), take_in c.args.s.now (c.args.at + 3 + 5) 3 (omega arith) (omega arith), take_in c.args.s.now (c.args.at + 3 + 5 + 3) 64 (omega arith) (omega arith), take_in c.args.s.now (c.args.at + 3 + 5 + 3 + 64) 3 (omega arith) (omega arith), take_in c.args.s.now (c.args.at + 3 + 5 + 3 + 64 + 3) 64 (omega arith) (omega arith))
