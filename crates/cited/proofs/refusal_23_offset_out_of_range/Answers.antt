-- `cited::refusal_23_offset_out_of_range` meets its contract: the invariant is that the entries from number i on decide.
-- Assumes nothing.
use mathlib.Core.Path.{refl}
use native.Mathlib.Omega.{arith}
use Rattle.manifest.specs.Rules.{refusal_23_offset_out_of_range}
use Rattle.cited.specs.laws.Within.{applies_start, applies_here, applies_on, applies_past}
use Rattle.cited.proofs.refusal_23_offset_out_of_range.Goals as goal

pub loop-i-init : goal.loop-i-init
unfolding refusal_23_offset_out_of_range
loop-i-init c = (omega arith, applies_start refusal_23_offset_out_of_range c.args.s.now c.args.ix.now refl refl)

pub returns-then-refusal_23_in : goal.returns-then-refusal_23_in
returns-then-refusal_23_in c = applies_here refusal_23_offset_out_of_range c.args.s.now c.args.ix.now c.entries-n.ensures c.loop-i.invariant.1 c.loop-i-test.true c.refusal_23_in.ensures c.if-refusal_23_in.true

pub loop-i-preserved : goal.loop-i-preserved
loop-i-preserved c = (omega arith, applies_on refusal_23_offset_out_of_range c.args.s.now c.args.ix.now c.entries-n.ensures c.loop-i.invariant.1 c.loop-i-test.true c.refusal_23_in.ensures c.if-refusal_23_in.false)

pub returns : goal.returns
returns c = applies_past refusal_23_offset_out_of_range c.args.s.now c.args.ix.now c.entries-n.ensures c.loop-i.invariant.1 c.loop-i-test.false
