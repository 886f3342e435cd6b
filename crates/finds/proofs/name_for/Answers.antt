-- `finds::name_for` meets its contract: the invariant is that the items from number k on decide.
-- Assumes nothing.
use mathlib.Core.Path.{sym, ◌∙◌}
use native.Mathlib.Omega.{arith}
use Rattle.finds.specs.laws.Ids.{name_start, name_past, name_found, name_on}
use Rattle.finds.proofs.name_for.Goals as goal

pub loop-k-init : goal.loop-k-init
loop-k-init c = (omega arith, name_start c.args.s.now c.args.ix.now c.args.i c.args.id)

pub returns-then-is_id : goal.returns-then-is_id
returns-then-is_id c = c.item.ensures ∙ sym (c.loop-k.invariant.1 ∙ name_found c.args.s.now c.args.ix.now c.args.i c.args.id c.items-n.ensures _ c.loop-k-test.true c.item-p.ensures c.is_id.ensures c.if-is_id.true)

pub loop-k-preserved : goal.loop-k-preserved
loop-k-preserved c = (omega arith, c.loop-k.invariant.1 ∙ name_on c.args.s.now c.args.ix.now c.args.i c.args.id c.items-n.ensures _ c.loop-k-test.true c.item-p.ensures c.is_id.ensures c.if-is_id.false)

pub returns : goal.returns
returns c = sym (c.loop-k.invariant.1 ∙ name_past c.args.s.now c.args.ix.now c.args.i c.args.id c.items-n.ensures _ c.loop-k-test.false)
