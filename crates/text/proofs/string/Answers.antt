-- `text::string` meets its contract: a quote at once closes it; so does one after plain bytes, a run of which is some steps of `characters`; the rest is `closed`'s.
-- Assumes nothing.
use Prim.Native.Nat.{◌+◌}
use native.Mathlib.Omega.{arith}
use mathlib.Core.Path.{◌∙◌, sym}
use Rattle.text.specs.laws.Peek.{found_in}
use Rattle.text.specs.laws.Plain.{own_le}
use Rattle.text.proofs.Ends.{ends, goes_own, closes, opens, no_string}
use Rattle.text.proofs.string.Goals as goal

pub returns-then-byte-ne34 : goal.returns-then-byte-ne34
returns-then-byte-ne34 c = no_string _ _ c.byte.ensures c.if-byte-ne34.true

pub overflow_add-first : goal.overflow_add-first
overflow_add-first c = omega (arith, found_in _ _ c.byte.ensures c.if-byte-ne34.false tt)

pub overflow_add-result : goal.overflow_add-result
overflow_add-result c = omega (arith, found_in _ _ c.byte-2.ensures c.if-byte-eq34.true tt)

pub returns-then-byte-eq34 : goal.returns-then-byte-eq34
returns-then-byte-eq34 c = sym (opens _ _ c.byte.ensures c.if-byte-ne34.false ∙ closes _ _ c.byte-2.ensures c.if-byte-eq34.true)

pub closed-requires : goal.closed-requires
closed-requires c = omega (arith, found_in _ _ c.byte.ensures c.if-byte-ne34.false tt)

pub returns-then-byte-gt127 : goal.returns-then-byte-gt127
unfolding ends
returns-then-byte-gt127 c = c.closed.ensures ∙ sym (opens _ _ c.byte.ensures c.if-byte-ne34.false)

pub overflow_add-result-then-byte-eq34-2 : goal.overflow_add-result-then-byte-eq34-2
overflow_add-result-then-byte-eq34-2 c = omega (arith, found_in _ _ c.byte-4.ensures c.if-byte-eq34-2.true tt)

pub returns-then-byte-eq34-2 : goal.returns-then-byte-eq34-2
returns-then-byte-eq34-2 c = sym (opens _ _ c.byte.ensures c.if-byte-ne34.false ∙ goes_own _ _ c.past_plain-end.ensures ∙ closes _ _ c.byte-4.ensures c.if-byte-eq34-2.true)

pub closed-requires-2 : goal.closed-requires-2
closed-requires-2 c = let l = found_in _ _ c.byte.ensures c.if-byte-ne34.false tt in
    let h = own_le c.args.s.now (c.args.at + 1) (omega (arith, l)) in
    omega (arith, h, c.past_plain-end.ensures)

pub returns : goal.returns
unfolding ends
returns c = c.closed-2.ensures ∙ sym (opens _ _ c.byte.ensures c.if-byte-ne34.false ∙ goes_own _ _ c.past_plain-end.ensures)
