-- `event_at` gives the event record that is laid out at the position; its reading is the 64 bits in two's complement. Assumes nothing.
use mir.Val.{SFits}
use mir.Syntax.{w64}
use mir.Facts.{to_z-of_z}
use Rattle.records.proofs.Takes.{field_lt}
use Rattle.records.specs.Readers.{event_at}
use Rattle.records.specs.Layout.{pick}
use Rattle.bits.specs.laws.Fields.{take_in}
use borrow.Author.Tests.{lt-ltb, le-ltb}
use Prim.Native.Nat.{◌+◌, ◌<◌}
use native.Mathlib.Omega.{arith}
use Rattle.records.proofs.event_at.Goals as goal

pub returns-then-at-ge-FAR : goal.returns-then-at-ge-FAR
unfolding event_at pick
returns-then-at-ge-FAR c = simp (le-ltb c.args.at 0x1000000000 c.if-at-ge-FAR.true) (λ i. record { source = c.default.ensures.0 i; clock = c.default.ensures.1.0 i; reading = c.default.ensures.1.1 i })

pub overflow_cast-result : goal.overflow_cast-result
overflow_cast-result c = omega (arith, field_lt c.args.s.now c.take-kind.result.next.at 5 c.take-whose.ensures)

pub overflow_cast-result-2 : goal.overflow_cast-result-2
overflow_cast-result-2 c = omega (arith, field_lt c.args.s.now c.take-whose.result.next.at 3 c.take-which.ensures)

pub returns : goal.returns
unfolding event_at pick
returns c = let h : c.args.at < 0x1000000000 = omega arith in let f0 : SFits w64 c.cast_signed.result = record { sfits = c.cast_signed.type_inv } in rw (lt-ltb c.args.at 0x1000000000 h, to_z-of_z f0, c.cast_signed.ensures, c.take-when.ensures, c.take-which.ensures, c.take-whose.ensures, c.take-kind.ensures, take_in c.args.s.now c.args.at 3 (omega arith) (omega arith), take_in c.args.s.now (c.args.at + 3) 5 (omega arith) (omega arith), take_in c.args.s.now (c.args.at + 3 + 5) 3 (omega arith) (omega arith), take_in c.args.s.now (c.args.at + 3 + 5 + 3) 64 (omega arith) (omega arith))
