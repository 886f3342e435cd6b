-- `places::member_at` meets its contract. The loop's invariant: what was counted, with the members that are left, gives the answer for the object. Where the rest is no object the answer is none.
-- Assumes nothing.
use mathlib.Core.Path.{◌∙◌}
use native.Mathlib.Omega.{arith}
use Rattle.text.specs.laws.Peek.{found_in}
use Rattle.places.proofs.Listed.{member_none, member_empty, member_start, member_last, member_wrong, member_more, member_stop}
use Rattle.places.proofs.member_at.Goals as goal

pub returns-then-byte-ne123 : goal.returns-then-byte-ne123
returns-then-byte-ne123 c = member_none _ _ _ (λ q. c.if-byte-ne123.true (c.byte.ensures ∙ q))

pub overflow_add-at : goal.overflow_add-at
overflow_add-at c = omega (arith, found_in _ _ c.byte.ensures c.if-byte-ne123.false tt)

pub returns-then-byte-eq125 : goal.returns-then-byte-eq125
returns-then-byte-eq125 c = member_empty _ _ _ c.byte.ensures c.if-byte-ne123.false c.blank-i.ensures c.byte-2.ensures c.if-byte-eq125.true

pub loop-a-init : goal.loop-a-init
loop-a-init c = member_start _ _ _ c.byte.ensures c.if-byte-ne123.false c.blank-i.ensures c.byte-2.ensures c.if-byte-eq125.false

pub returns-then-b-eq125 : goal.returns-then-b-eq125
returns-then-b-eq125 c = member_last _ _ _ _ _ c.loop-a.invariant c.entry_from.ensures c.in-Named.is c.same_as.ensures c.note-m.ensures c.blank-f.ensures c.byte-b.ensures c.if-b-eq125.true

pub returns-then-b-ne44 : goal.returns-then-b-ne44
returns-then-b-ne44 c = member_wrong _ _ _ _ _ c.loop-a.invariant c.entry_from.ensures c.in-Named.is c.same_as.ensures c.note-m.ensures c.blank-f.ensures c.byte-b.ensures c.if-b-eq125.false c.if-b-ne44.true

pub overflow_add-f : goal.overflow_add-f
overflow_add-f c = omega (arith, found_in _ _ c.byte-b.ensures c.if-b-ne44.false tt)

pub loop-a-smaller : goal.loop-a-smaller
loop-a-smaller c = omega (arith, member_more _ _ _ _ _ c.loop-a.invariant c.entry_from.ensures c.in-Named.is c.same_as.ensures c.note-m.ensures c.blank-f.ensures c.byte-b.ensures c.if-b-eq125.false c.if-b-ne44.false c.blank-i-in-Named.ensures)

pub loop-a-preserved : goal.loop-a-preserved
loop-a-preserved c = (member_more _ _ _ _ _ c.loop-a.invariant c.entry_from.ensures c.in-Named.is c.same_as.ensures c.note-m.ensures c.blank-f.ensures c.byte-b.ensures c.if-b-eq125.false c.if-b-ne44.false c.blank-i-in-Named.ensures).2

pub returns-in-Last : goal.returns-in-Last
returns-in-Last c = member_stop _ _ _ _ _ c.loop-a.invariant c.entry_from.ensures c.in-Last.is
