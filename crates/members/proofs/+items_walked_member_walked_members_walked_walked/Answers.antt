-- `members::walked`, `items_walked`, `member_walked` and `members_walked`, which call each other, meet their contracts. They end since the kind's number falls
-- from an object to its members and from an array to its items: four times the number, and 3, 4, 1 and 2. The loops keep that what was found so far, with what
-- the items or members still to come hold, is what all of them hold (`Sum`). Each answer is a step of the walk in the code's own values (`Standing`, `Walking`).
-- Assumes nothing.
use mathlib.Core.Path.{sym, ◌∙◌}
use native.Mathlib.Omega.{arith}
use Rattle.text.specs.laws.Peek.{found_in}
use Rattle.table.specs.laws.Looking.{line_gives}
use Rattle.table.specs.laws.Types.{tag_told}
use Rattle.members.specs.laws.Judged.{item_falls}
use Rattle.members.proofs.Standing.{free_told, wrong_told, scalar_told, array_inside, array_reads, array_told, object_inside, object_reads, object_told, object_kind}
use Rattle.members.proofs.Walking.{items_none, items_start, item_reads, items_inside, items_last, items_next}
use Rattle.members.proofs.Walking.{value_falls, value_reads, member_told, members_none, members_start, member_reads, members_inside, members_last, members_next}
use Rattle.members.proofs.+items_walked_member_walked_members_walked_walked.Goals as goal

pub items_walked-overflow_add-result : goal.items_walked-overflow_add-result
items_walked-overflow_add-result t c = omega (arith, found_in _ _ c.byte.ensures c.if-byte-eq93.true tt)

pub items_walked-returns-then-byte-eq93 : goal.items_walked-returns-then-byte-eq93
items_walked-returns-then-byte-eq93 t c = items_none _ _ _ c.blank-i.ensures c.byte.ensures c.if-byte-eq93.true

pub items_walked-loop-at-init : goal.items_walked-loop-at-init
items_walked-loop-at-init t c = items_start _ _ _ c.blank-i.ensures c.byte.ensures c.if-byte-eq93.false c.requires.1

pub items_walked-walked-w-requires : goal.items_walked-walked-w-requires
items_walked-walked-w-requires t c = (omega arith, (c.requires.0, item_reads c.loop-at.invariant))

pub items_walked-overflow_add-result-then-byte-ne44 : goal.items_walked-overflow_add-result-then-byte-ne44
items_walked-overflow_add-result-then-byte-ne44 t c =
    omega (arith, items_inside c.loop-at.invariant c.walked-w.ensures c.either-twice.ensures c.either-ill.ensures c.blank-after.ensures c.byte-in-loop-at.ensures)

pub items_walked-returns-then-byte-ne44 : goal.items_walked-returns-then-byte-ne44
items_walked-returns-then-byte-ne44 t c =
    items_last c.loop-at.invariant c.walked-w.ensures c.either-twice.ensures c.either-ill.ensures c.blank-after.ensures c.byte-in-loop-at.ensures c.if-byte-ne44.true

pub items_walked-overflow_add-after : goal.items_walked-overflow_add-after
items_walked-overflow_add-after t c =
    omega (arith, items_inside c.loop-at.invariant c.walked-w.ensures c.either-twice.ensures c.either-ill.ensures c.blank-after.ensures c.byte-in-loop-at.ensures)

pub items_walked-loop-at-smaller : goal.items_walked-loop-at-smaller
items_walked-loop-at-smaller t c =
    omega (
      arith,
      items_next c.loop-at.invariant c.walked-w.ensures c.either-twice.ensures c.either-ill.ensures c.blank-after.ensures c.byte-in-loop-at.ensures
          c.if-byte-ne44.false c.blank-i-in-loop-at.ensures,
    )

pub items_walked-loop-at-preserved : goal.items_walked-loop-at-preserved
items_walked-loop-at-preserved t c =
    (items_next c.loop-at.invariant c.walked-w.ensures c.either-twice.ensures c.either-ill.ensures c.blank-after.ensures c.byte-in-loop-at.ensures
    c.if-byte-ne44.false c.blank-i-in-loop-at.ensures).2

pub member_walked-walked-w-requires : goal.member_walked-walked-w-requires
member_walked-walked-w-requires t c =
    let l = value_falls _ _ (line_gives c.line_of-line.ensures) c.requires.2 c.requires.0 in
    (omega arith, (omega arith, value_reads _ _ c.name.ensures c.end_of-j.ensures c.blank.ensures c.requires.2))

pub member_walked-returns : goal.member_walked-returns
member_walked-returns t c =
    member_told _ _ c.name.ensures c.end_of-j.ensures c.blank.ensures (line_gives c.line_of-line.ensures) c.value_kind.ensures c.walked-w.ensures

pub members_walked-overflow_add-result : goal.members_walked-overflow_add-result
members_walked-overflow_add-result t c = omega (arith, found_in _ _ c.byte.ensures c.if-byte-eq125.true tt)

pub members_walked-returns-then-byte-eq125 : goal.members_walked-returns-then-byte-eq125
members_walked-returns-then-byte-eq125 t c = members_none _ _ _ c.blank-i.ensures c.byte.ensures c.if-byte-eq125.true c.lacking.ensures

pub members_walked-loop-seen-init : goal.members_walked-loop-seen-init
members_walked-loop-seen-init t c = members_start _ _ _ c.blank-i.ensures c.byte.ensures c.if-byte-eq125.false c.requires.2

pub members_walked-member_walked-m-requires : goal.members_walked-member_walked-m-requires
members_walked-member_walked-m-requires t c = (omega arith, (c.requires.0, c.requires.1, member_reads c.loop-seen.invariant))

pub members_walked-noted-again-requires : goal.members_walked-noted-again-requires
members_walked-noted-again-requires t c = c.loop-seen.invariant.sized

pub members_walked-overflow_add-result-then-byte-ne44 : goal.members_walked-overflow_add-result-then-byte-ne44
members_walked-overflow_add-result-then-byte-ne44 t c =
    omega (
      arith,
      members_inside c.loop-seen.invariant c.member_walked-m.ensures c.noted-again.ensures c.either.ensures c.either-twice.ensures c.either-ill.ensures
          c.blank-e.ensures c.byte-in-loop-seen.ensures,
    )

pub members_walked-returns-then-byte-ne44 : goal.members_walked-returns-then-byte-ne44
members_walked-returns-then-byte-ne44 t c =
    members_last c.loop-seen.invariant c.member_walked-m.ensures c.noted-again.ensures c.either.ensures c.either-twice.ensures c.either-ill.ensures
    c.blank-e.ensures c.byte-in-loop-seen.ensures c.if-byte-ne44.true c.lacking-then-byte-ne44.ensures c.either-then-byte-ne44.ensures

pub members_walked-overflow_add-e : goal.members_walked-overflow_add-e
members_walked-overflow_add-e t c =
    omega (
      arith,
      members_inside c.loop-seen.invariant c.member_walked-m.ensures c.noted-again.ensures c.either.ensures c.either-twice.ensures c.either-ill.ensures
          c.blank-e.ensures c.byte-in-loop-seen.ensures,
    )

pub members_walked-loop-seen-smaller : goal.members_walked-loop-seen-smaller
members_walked-loop-seen-smaller t c =
    omega (
      arith,
      members_next c.loop-seen.invariant c.member_walked-m.ensures c.noted-again.ensures c.either.ensures c.either-twice.ensures c.either-ill.ensures
          c.blank-e.ensures c.byte-in-loop-seen.ensures c.if-byte-ne44.false c.blank-i-in-loop-seen.ensures,
    )

pub members_walked-loop-seen-preserved : goal.members_walked-loop-seen-preserved
members_walked-loop-seen-preserved t c =
    (members_next c.loop-seen.invariant c.member_walked-m.ensures c.noted-again.ensures c.either.ensures c.either-twice.ensures c.either-ill.ensures
    c.blank-e.ensures c.byte-in-loop-seen.ensures c.if-byte-ne44.false c.blank-i-in-loop-seen.ensures).2

pub walked-returns-then-kind-eq2 : goal.walked-returns-then-kind-eq2
walked-returns-then-kind-eq2 t c = free_told _ _ c.if-kind-eq2.true c.passed.ensures

pub walked-returns-then-tag-wanted : goal.walked-returns-then-tag-wanted
walked-returns-then-tag-wanted t c =
    wrong_told _ _ _ c.requires.0 c.if-kind-eq2.false (tag_told c.tag_at-tag.ensures) c.wanted.ensures c.if-tag-wanted.true c.passed-then-tag-wanted.ensures

pub walked-overflow_add-at : goal.walked-overflow_add-at
walked-overflow_add-at t c =
    omega (arith, array_inside _ _ _ c.requires.0 c.if-kind-eq2.false (tag_told c.tag_at-tag.ensures) c.wanted.ensures c.if-tag-wanted.false c.in-5.is c.requires.1)

pub walked-items_walked-requires : goal.walked-items_walked-requires
walked-items_walked-requires t c =
    let l = item_falls _ c.requires.0 c.if-kind-eq2.false (sym c.wanted.ensures ∙ (sym c.if-tag-wanted.false ∙ c.in-5.is)) in (
      omega (arith, c.item_kind.ensures),
      (
        omega (arith, c.item_kind.ensures),
        array_reads _ _ _ c.requires.0 c.if-kind-eq2.false (tag_told c.tag_at-tag.ensures) c.wanted.ensures c.if-tag-wanted.false c.in-5.is c.requires.1,
      ),
    )

pub walked-overflow_add-at-in-6 : goal.walked-overflow_add-at-in-6
walked-overflow_add-at-in-6 t c =
    omega (arith, object_inside _ _ _ c.requires.0 c.if-kind-eq2.false (tag_told c.tag_at-tag.ensures) c.wanted.ensures c.if-tag-wanted.false c.in-6.is c.requires.1)

pub walked-members_walked-requires : goal.walked-members_walked-requires
walked-members_walked-requires t c = (
  omega arith,
  (
    object_kind _ c.if-kind-eq2.false (sym c.wanted.ensures ∙ (sym c.if-tag-wanted.false ∙ c.in-6.is)),
    c.requires.0,
    object_reads _ _ _ c.requires.0 c.if-kind-eq2.false (tag_told c.tag_at-tag.ensures) c.wanted.ensures c.if-tag-wanted.false c.in-6.is c.requires.1,
  ),
)

pub walked-returns-in-5 : goal.walked-returns-in-5
walked-returns-in-5 t c =
    array_told _ _ _ c.requires.0 c.if-kind-eq2.false (tag_told c.tag_at-tag.ensures) c.wanted.ensures c.if-tag-wanted.false c.in-5.is
    c.item_kind.ensures c.items_walked.ensures

pub walked-returns-in-6 : goal.walked-returns-in-6
walked-returns-in-6 t c =
    object_told _ _ _ c.requires.0 c.if-kind-eq2.false (tag_told c.tag_at-tag.ensures) c.wanted.ensures c.if-tag-wanted.false c.in-6.is c.members_walked.ensures

pub walked-returns-in_default : goal.walked-returns-in_default
walked-returns-in_default t c =
    scalar_told _ _ _ c.requires.0 c.if-kind-eq2.false (tag_told c.tag_at-tag.ensures) c.wanted.ensures c.if-tag-wanted.false (omega arith) (omega arith)
    c.passed-in_default.ensures
