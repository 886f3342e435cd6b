-- `cited::refusal_22_offset_not_an_integer` meets its contract: the invariant is that the entries from number i on decide.
-- Assumes nothing.
use mathlib.Core.Path.{refl}
use native.Mathlib.Omega.{arith}
use Rattle.manifest.specs.Rules.{refusal_22_offset_not_an_integer}
use Rattle.cited.specs.laws.Within.{applies_start, applies_here, applies_on, applies_past}
use Rattle.cited.proofs.refusal_22_offset_not_an_integer.Goals as goal

pub loop-i-init : goal.loop-i-init
unfolding refusal_22_offset_not_an_integer
loop-i-init c = (omega arith, applies_start refusal_22_offset_not_an_integer c.args.s.now c.args.ix.now refl refl)

pub returns-then-refusal_22_in : goal.returns-then-refusal_22_in
returns-then-refusal_22_in c = applies_here refusal_22_offset_not_an_integer c.args.s.now c.args.ix.now c.entries-n.ensures c.loop-i.invariant.1 c.loop-i-test.true c.refusal_22_in.ensures c.if-refusal_22_in.true

pub loop-i-preserved : goal.loop-i-preserved
loop-i-preserved c = (omega arith, applies_on refusal_22_offset_not_an_integer c.args.s.now c.args.ix.now c.entries-n.ensures c.loop-i.invariant.1 c.loop-i-test.true c.refusal_22_in.ensures c.if-refusal_22_in.false)

pub returns : goal.returns
returns c = applies_past refusal_22_offset_not_an_integer c.args.s.now c.args.ix.now c.entries-n.ensures c.loop-i.invariant.1 c.loop-i-test.false
