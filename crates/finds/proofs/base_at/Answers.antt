-- `finds::base_at` meets its contract: the name of `machine`, if both are there, and else the name for id 0, as the definition has it.
-- Assumes nothing.
use mathlib.Core.Path.{sym, ◌∙◌}
use Rattle.finds.specs.laws.Bases.{base_none, base_named, base_nameless}
use Rattle.finds.proofs.base_at.Goals as goal
use Rattle.finds.proofs.base_at.Goals.{then-col-ne0+else-name-ne0, else-col-ne0}

pub returns-then-name-ne0 : goal.returns-then-name-ne0
returns-then-name-ne0 c = sym (base_named c.args.s.now c.args.ix.now c.args.i c.col.ensures c.if-col-ne0.true c.col-name.ensures c.if-name-ne0.true)

pub returns : goal.returns
returns c =
    c.name_for.ensures
    ∙ sym (elim c.if-col-ne0.branch [
      | then-col-ne0+else-name-ne0 w ↦ base_nameless c.args.s.now c.args.ix.now c.args.i c.col.ensures w.if-col-ne0.true w.col-name.ensures w.if-name-ne0.false
      | else-col-ne0 w ↦ base_none c.args.s.now c.args.ix.now c.args.i c.col.ensures w.if-col-ne0.false
    ])
