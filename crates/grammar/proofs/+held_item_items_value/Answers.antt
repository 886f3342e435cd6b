-- `grammar::value`, `grammar::items`, `grammar::item` and `grammar::held`, which call each other, meet their contracts. They end since the levels fall: at each call the
-- measure of the one called is below. Each answer is a step of the reader in the code's own values (`Coded`). Assumes nothing.
use Rattle.std.proofs.Common.{◌≡◌, ℕ, arith}
use mathlib.Core.Path.{sym, ap, ◌∙◌}
use Rattle.text.specs.laws.Peek.{found_in, found_lt}
use Rattle.grammar.specs.Items.{closer}
use Rattle.grammar.proofs.laws.Steps.{closer_byte}
use Rattle.grammar.proofs.Coded.{none_left, all_left, left_bad, left_deep, left_close, left_stop, left_comma, further}
use Rattle.grammar.proofs.Coded.{opens_in, is_deep, is_list, is_scalar, kept, kept_bad, kept_deep, kept_array}
use Rattle.grammar.proofs.+held_item_items_value.Goals as goal
use Rattle.grammar.proofs.+held_item_items_value.Goals.{items-Joined-object, items-then-object, items-else-object}

pub held-value-requires : goal.held-value-requires
held-value-requires t c = (omega (arith, c.decreases), tt)

pub held-returns-in_default : goal.held-returns-in_default
held-returns-in_default t c = is_scalar _ _ _ c.byte.ensures (omega arith) c.scalar.ensures

pub item-held-requires : goal.item-held-requires
item-held-requires t c = (omega (arith, c.decreases), tt)

pub item-held-requires-else-object : goal.item-held-requires-else-object
item-held-requires-else-object t c = (omega (arith, c.decreases), tt)

pub item-returns-in-Done : goal.item-returns-in-Done
item-returns-in-Done t c = kept _ _ _ _ c.if-object.true c.name.ensures c.in-Done.is c.blank.ensures c.held.ensures

pub item-returns-in-Bad : goal.item-returns-in-Bad
item-returns-in-Bad t c = kept_bad _ _ _ _ c.if-object.true c.name.ensures c.in-Bad.is

pub item-returns-in-Deep : goal.item-returns-in-Deep
item-returns-in-Deep t c = kept_deep _ _ _ _ c.if-object.true c.name.ensures c.in-Deep.is

pub item-returns-else-object : goal.item-returns-else-object
item-returns-else-object t c = kept_array _ _ _ _ c.if-object.false c.held-else-object.ensures

-- what closes the items
items_close : (t : ℕ) (c : items-Joined-object t) → c.if-object.close ≡ closer c.args.object
items_close t c =
    elim c.if-object.branch [
      | items-then-object w ↦ w.close-is ∙ sym (ap closer w.if-object.true)
      | items-else-object w ↦ w.close-is ∙ sym (ap closer w.if-object.false)
    ]

pub items-overflow_add-result : goal.items-overflow_add-result
items-overflow_add-result t c =
    let close = items_close t (goal.at.items-overflow_add-result t c).Joined-object in
    omega (arith, found_lt _ _ c.byte.ensures c.if-byte-close.true (closer_byte c.args.object _ close))

pub items-returns-then-byte-close : goal.items-returns-then-byte-close
items-returns-then-byte-close t c =
    let close = items_close t (goal.at.items-returns-then-byte-close t c).Joined-object in
    none_left c.args.object c.args.levels _ _ close c.blank-k.ensures c.byte.ensures c.if-byte-close.true

pub items-loop-j-init : goal.items-loop-j-init
items-loop-j-init t c =
    all_left _ _ _ _ (items_close t (goal.at.items-loop-j-init t c).Joined-object) c.blank-k.ensures c.byte.ensures c.if-byte-close.false

pub items-item-requires : goal.items-item-requires
items-item-requires t c = (omega (arith, c.decreases), tt)

pub items-overflow_add-result-then-b-close : goal.items-overflow_add-result-then-b-close
items-overflow_add-result-then-b-close t c =
    let close = items_close t (goal.at.items-overflow_add-result-then-b-close t c).Joined-object in
    omega (arith, found_lt _ _ c.byte-b.ensures c.if-b-close.true (closer_byte c.args.object _ close))

pub items-returns-then-b-close : goal.items-returns-then-b-close
items-returns-then-b-close t c =
    let close = items_close t (goal.at.items-returns-then-b-close t c).Joined-object in
    left_close _ _ _ _ close c.loop-j.invariant c.item.ensures c.in-Done.is c.blank-e.ensures c.byte-b.ensures c.if-b-close.true

pub items-returns-then-b-ne44 : goal.items-returns-then-b-ne44
items-returns-then-b-ne44 t c =
    let close = items_close t (goal.at.items-returns-then-b-ne44 t c).Joined-object in
    left_stop _ _ _ _ close c.loop-j.invariant c.item.ensures c.in-Done.is c.blank-e.ensures c.byte-b.ensures c.if-b-close.false c.if-b-ne44.true

pub items-overflow_add-e : goal.items-overflow_add-e
items-overflow_add-e t c = omega (arith, found_in _ _ c.byte-b.ensures c.if-b-ne44.false tt)

pub items-loop-j-smaller : goal.items-loop-j-smaller
items-loop-j-smaller t c =
    let close = items_close t (goal.at.items-loop-j-smaller t c).Joined-object in
    further _ _ _ _ close c.loop-j.invariant c.item.ensures c.in-Done.is c.blank-e.ensures c.byte-b.ensures c.if-b-close.false c.if-b-ne44.false c.blank-i.ensures

pub items-loop-j-preserved : goal.items-loop-j-preserved
items-loop-j-preserved t c =
    let close = items_close t (goal.at.items-loop-j-preserved t c).Joined-object in
    left_comma _ _ _ _ close c.loop-j.invariant c.item.ensures c.in-Done.is c.blank-e.ensures c.byte-b.ensures c.if-b-close.false c.if-b-ne44.false c.blank-i.ensures

pub items-returns-in-Bad : goal.items-returns-in-Bad
items-returns-in-Bad t c =
    left_bad _ _ _ _ (items_close t (goal.at.items-returns-in-Bad t c).Joined-object) c.loop-j.invariant c.item.ensures c.in-Bad.is

pub items-returns-in-Deep : goal.items-returns-in-Deep
items-returns-in-Deep t c =
    left_deep _ _ _ _ (items_close t (goal.at.items-returns-in-Deep t c).Joined-object) c.loop-j.invariant c.item.ensures c.in-Deep.is

pub value-returns-then-levels-eq0 : goal.value-returns-then-levels-eq0
value-returns-then-levels-eq0 t c = is_deep _ _ _ c.byte-b.ensures c.in-91.is c.if-levels-eq0.true

pub value-overflow_add-at : goal.value-overflow_add-at
value-overflow_add-at t c = omega (arith, opens_in _ _ 0 c.byte-b.ensures c.in-91.is)

pub value-items-requires : goal.value-items-requires
value-items-requires t c = (omega (arith, c.decreases), tt)

pub value-returns-else-levels-eq0 : goal.value-returns-else-levels-eq0
value-returns-else-levels-eq0 t c = is_list _ _ _ c.byte-b.ensures c.in-91.is c.if-levels-eq0.false c.items.ensures

pub value-returns-in_default : goal.value-returns-in_default
value-returns-in_default t c = is_scalar _ _ _ c.byte-b.ensures (omega arith) c.scalar.ensures
