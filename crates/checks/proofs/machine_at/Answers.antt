-- `checks::machine_at` meets its contract: by id it is a place after the names; else what is given.
-- Assumes nothing.
use native.Mathlib.Omega.{arith}
use Rattle.checks.specs.laws.Told.{met_given, met_by_id}
use Rattle.checks.specs.laws.Ids.{firsts, place_most}
use Rattle.checks.specs.Table.{facts_by}
use Rattle.checks.proofs.machine_at.Goals as goal

pub returns-then-not-by_id : goal.returns-then-not-by_id
returns-then-not-by_id c = met_given c.args.t.now c.args.j c.by_id.ensures c.args.n (firsts c.args.ids.now c.args.n) c.if-not-by_id.true c.given_machine.ensures

pub overflow_add-result : goal.overflow_add-result
overflow_add-result c = omega (arith, c.names.ensures.1, place_most c.args.ids.now c.args.n c.source_number.result, c.place_of-place.ensures, c.requires.1)

pub overflow_add-result-2 : goal.overflow_add-result-2
overflow_add-result-2 c = omega (arith, c.names.ensures.1, place_most c.args.ids.now c.args.n c.source_number.result, c.place_of-place.ensures, c.requires.1)

pub returns : goal.returns
unfolding facts_by
returns c = met_by_id c.args.t.now c.args.j c.by_id.ensures c.args.n (firsts c.args.ids.now c.args.n) c.if-not-by_id.false c.source_number.ensures c.place_of-place.ensures c.names.ensures.0
