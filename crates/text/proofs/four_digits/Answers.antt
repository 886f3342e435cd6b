-- `text::four_digits` meets its contract: a digit that is none, whichever is asked first, makes `digits_at` 65536; and two zeros before the last two digits do not count.
-- Assumes nothing.
use Prim.Native.Nat.{◌+◌}
use Rattle.text.proofs.Hexes.{digit_found, third_none, fourth_none, zeros_before, first_none, second_none, all_four}
use borrow.Author.Rules.{rules}
use Rattle.text.proofs.four_digits.Goals as goal

pub returns-then-c-gt15 : goal.returns-then-c-gt15
returns-then-c-gt15 c = third_none _ _ (digit_found c.args.s.now (c.args.at + 2) c.widen.ensures c.hex_of-c.ensures (search rules)) c.if-c-gt15.true

pub returns-then-d-gt15 : goal.returns-then-d-gt15
returns-then-d-gt15 c = fourth_none _ _ (digit_found c.args.s.now (c.args.at + 2) c.widen.ensures c.hex_of-c.ensures (search rules)) c.if-c-gt15.false (digit_found c.args.s.now (c.args.at + 3) c.widen-2.ensures c.hex_of-d.ensures (search rules)) c.if-d-gt15.true

pub returns-then-zeros : goal.returns-then-zeros
returns-then-zeros c = zeros_before _ _ (digit_found c.args.s.now (c.args.at + 2) c.widen.ensures c.hex_of-c.ensures (search rules)) c.if-c-gt15.false (digit_found c.args.s.now (c.args.at + 3) c.widen-2.ensures c.hex_of-d.ensures (search rules)) c.if-d-gt15.false c.requires c.zeros.ensures c.if-zeros.true

pub returns-then-a-gt15 : goal.returns-then-a-gt15
returns-then-a-gt15 c = first_none _ _ (digit_found c.args.s.now c.args.at c.widen-3.ensures c.hex_of-a.ensures (search rules)) c.if-a-gt15.true

pub returns-then-b-gt15 : goal.returns-then-b-gt15
returns-then-b-gt15 c = second_none _ _ (digit_found c.args.s.now c.args.at c.widen-3.ensures c.hex_of-a.ensures (search rules)) c.if-a-gt15.false (digit_found c.args.s.now (c.args.at + 1) c.widen-4.ensures c.hex_of-b.ensures (search rules)) c.if-b-gt15.true

pub returns : goal.returns
returns c = all_four _ _ (digit_found c.args.s.now (c.args.at + 2) c.widen.ensures c.hex_of-c.ensures (search rules)) c.if-c-gt15.false (digit_found c.args.s.now (c.args.at + 3) c.widen-2.ensures c.hex_of-d.ensures (search rules)) c.if-d-gt15.false (digit_found c.args.s.now c.args.at c.widen-3.ensures c.hex_of-a.ensures (search rules)) c.if-a-gt15.false (digit_found c.args.s.now (c.args.at + 1) c.widen-4.ensures c.hex_of-b.ensures (search rules)) c.if-b-gt15.false
