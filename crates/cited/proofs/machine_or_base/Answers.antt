-- `cited::machine_or_base` meets its contract: the position itself, unless it is 0.
-- Assumes nothing.
use mathlib.Core.Path.{sym, ◌∙◌}
use borrow.Author.Tests.{eq-eqb, ne_eqb}
use Rattle.text.specs.laws.Readers.{pick_true, pick_false}
use Rattle.cited.proofs.machine_or_base.Goals as goal

pub returns-then-p-eq0 : goal.returns-then-p-eq0
returns-then-p-eq0 c = c.base_at.ensures ∙ sym (pick_true _ _ (eq-eqb c.args.p 0 c.if-p-eq0.true))

pub returns : goal.returns
returns c = sym (pick_false _ _ (ne_eqb c.args.p 0 c.if-p-eq0.false))
