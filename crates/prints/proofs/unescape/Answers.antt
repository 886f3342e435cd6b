-- `prints::unescape` meets its contract: with the first row of bytes that stand for themselves in memory, a walk has begun, which `write_on` ends. Assumes nothing.
use mathlib.Core.Path.{sym, ◌∙◌}
use Prim.Native.Nat.{◌+◌, ◌≤◌}
use native.Mathlib.Omega.{arith}
use lib.ListN.{length}
use Rattle.text.specs.laws.Raw.{raw_ge, raw_le}
use Rattle.text.specs.laws.Peek.{found_in}
use Rattle.prints.specs.laws.Walks.{no_string, begins}
use Rattle.prints.specs.laws.Fronts.{part_long}
use Rattle.prints.proofs.unescape.Goals as goal

pub returns-then-byte-ne34 : goal.returns-then-byte-ne34
returns-then-byte-ne34 c = let w = no_string _ _ (λ q. c.if-byte-ne34.true (c.byte.ensures ∙ q)) in (w.long, w.bytes)

pub overflow_add-p : goal.overflow_add-p
overflow_add-p c = omega (arith, found_in _ _ c.byte.ensures c.if-byte-ne34.false tt)

pub overflow_add-p-2 : goal.overflow_add-p-2
overflow_add-p-2 c = omega (arith, found_in _ _ c.byte.ensures c.if-byte-ne34.false tt)

pub put_row-n-requires : goal.put_row-n-requires
put_row-n-requires c = (omega arith, omega (arith, raw_ge c.args.s.now (c.args.p + 1), c.past_raw-i.ensures), omega (arith, raw_le c.args.s.now (c.args.p + 1) (omega (arith, found_in _ _ c.byte.ensures c.if-byte-ne34.false tt)), c.past_raw-i.ensures))

pub write_on-requires : goal.write_on-requires
write_on-requires c = let l : c.past_raw-i.result ≤ length c.args.s.now = omega (arith, raw_le c.args.s.now (c.args.p + 1) (omega (arith, found_in _ _ c.byte.ensures c.if-byte-ne34.false tt)), c.past_raw-i.ensures) in (l, omega (arith, c.put_row-n.ensures.count, part_long c.args.s.now (c.args.p + 1) l))

pub returns : goal.returns
returns c = let w = c.write_on.ensures _ (begins _ _ (sym c.byte.ensures ∙ c.if-byte-ne34.false) c.past_raw-i.ensures c.put_row-n.ensures) in (w.long, w.bytes)
