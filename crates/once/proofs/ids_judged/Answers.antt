-- `once::ids_judged` meets its contract: the invariant is that the entries from number i on decide whether an id is out of range, and that it is noted whether one before has an id twice, or those from there on decide.
-- Assumes nothing.
use mathlib.Core.Bool.{false, true≢false}
use mathlib.Core.Path.{refl, ◌∙◌}
use Rattle.index.proofs.laws.Entries.{applies_within}
use Rattle.manifest.specs.Rules.{refusal_14_id_out_of_range}
use Rattle.once.specs.Once.{twice_rule}
use Rattle.once.proofs.Twice.{within_15, noted_twice, noted_once}
use Rattle.once.proofs.Loops.{loop_found, loop_on, loop_past, all_on, all_done}
use Rattle.once.proofs.ids_judged.Goals as goal
use Rattle.once.proofs.ids_judged.Goals.{then-found-2, else-found-2}

pub loop-i-init : goal.loop-i-init
unfolding refusal_14_id_out_of_range twice_rule
loop-i-init c = (applies_within refusal_14_id_out_of_range c.args.s.now c.args.ix.now refl, applies_within (twice_rule false) c.args.s.now c.args.ix.now refl)

pub returns-then-found : goal.returns-then-found
returns-then-found c = (loop_found refusal_14_id_out_of_range c.args.s.now c.args.ix.now c.entries-n.ensures c.loop-i.invariant.0 c.loop-i-test.true c.ids_in-found.ensures.0 c.if-found.true, λ e. absurd (true≢false e))

pub loop-i-preserved : goal.loop-i-preserved
loop-i-preserved c = (
  loop_on refusal_14_id_out_of_range c.args.s.now c.args.ix.now c.entries-n.ensures c.loop-i.invariant.0 c.loop-i-test.true c.ids_in-found.ensures.0 c.if-found.false,
  all_on (twice_rule false) c.args.s.now c.args.ix.now c.loop-i.twice c.entries-n.ensures c.loop-i.invariant.1 c.loop-i-test.true
      (c.ids_in-found.ensures.1 c.if-found.false ∙ within_15 c.args.s.now c.args.ix.now _)
      (elim c.if-found-2.branch [
        | then-found-2 w ↦ noted_twice c.loop-i.twice w.if-found-2.true w.twice-is
        | else-found-2 w ↦ noted_once c.loop-i.twice w.if-found-2.false w.twice-is
      ]),
)

pub returns : goal.returns
returns c = (loop_past refusal_14_id_out_of_range c.args.s.now c.args.ix.now c.entries-n.ensures c.loop-i.invariant.0 c.loop-i-test.false, λ _. all_done (twice_rule false) c.args.s.now c.args.ix.now c.loop-i.twice c.entries-n.ensures c.loop-i.invariant.1 c.loop-i-test.false)
