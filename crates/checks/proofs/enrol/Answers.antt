-- `checks::enrol` meets its contract: the place found tells whether the id is among those before; a new one goes behind them.
-- Assumes nothing.
use mathlib.Core.Path.{sym, ◌∙◌}
use Rattle.checks.specs.Table.{source_by, facts_by}
use Rattle.checks.specs.laws.Met.{enrolled_other, enrolled_again, enrolled_new}
use Rattle.checks.proofs.enrol.Goals as goal

pub returns-then-not-by_id : goal.returns-then-not-by_id
returns-then-not-by_id c = enrolled_other (facts_by c.args.t.now) (source_by c.args.t.now c.args.j) c.args.ids.now c.args.n c.requires.2 (sym c.by_id.ensures ∙ c.if-not-by_id.true)

pub returns-then-place_of-n : goal.returns-then-place_of-n
unfolding source_by
returns-then-place_of-n c = enrolled_again (facts_by c.args.t.now) (source_by c.args.t.now c.args.j) c.args.ids.now c.args.n c.requires.2 (sym c.by_id.ensures ∙ c.if-not-by_id.false) c.source_number-id.result c.place_of.result c.source_number-id.ensures c.place_of.ensures c.if-place_of-n.true

pub returns : goal.returns
unfolding source_by
returns c = enrolled_new (facts_by c.args.t.now) (source_by c.args.t.now c.args.j) c.args.ids.now c.args.n c.requires.2 (sym c.by_id.ensures ∙ c.if-not-by_id.false) c.source_number-id.result c.place_of.result c.source_number-id.ensures c.place_of.ensures c.if-place_of-n.false c.requires.1
