-- `label_at` gives the source and the clock of the event record that is laid out at the position: it takes the same first three fields as
-- `event_at`, and each field taken is the number that its bits write. Assumes nothing.
use Rattle.records.proofs.Takes.{field_lt}
use Rattle.records.specs.Readers.{event_at}
use Rattle.records.specs.Layout.{pick}
use Rattle.bits.specs.laws.Fields.{take_in}
use borrow.Author.Tests.{lt-ltb, le-ltb}
use Prim.Native.Nat.{◌+◌, ◌<◌}
use native.Mathlib.Omega.{arith}
use Rattle.records.proofs.label_at.Goals as goal

pub returns-then-at-ge-FAR : goal.returns-then-at-ge-FAR
unfolding event_at pick
returns-then-at-ge-FAR c = let h = le-ltb c.args.at 0x1000000000 c.if-at-ge-FAR.true in (simp h c.default.ensures.0, simp h c.default.ensures.1)

pub overflow_cast-result : goal.overflow_cast-result
overflow_cast-result c = omega (arith, field_lt c.args.s.now c.take-kind.result.next.at 5 c.take-source_field.ensures)

pub overflow_cast-result-2 : goal.overflow_cast-result-2
overflow_cast-result-2 c = omega (arith, field_lt c.args.s.now c.take-source_field.result.next.at 3 c.take-clock_field.ensures)

pub returns : goal.returns
unfolding event_at pick
returns c = let h : c.args.at < 0x1000000000 = omega arith in (rw (lt-ltb c.args.at 0x1000000000 h, c.take-source_field.ensures, c.take-kind.ensures, take_in c.args.s.now c.args.at 3 (omega arith) (omega arith), take_in c.args.s.now (c.args.at + 3) 5 (omega arith) (omega arith)), rw (lt-ltb c.args.at 0x1000000000 h, c.take-clock_field.ensures, c.take-source_field.ensures, c.take-kind.ensures, take_in c.args.s.now c.args.at 3 (omega arith) (omega arith), take_in c.args.s.now (c.args.at + 3) 5 (omega arith) (omega arith), take_in c.args.s.now (c.args.at + 3 + 5) 3 (omega arith) (omega arith)))
