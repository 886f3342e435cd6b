-- `cited::refusal_24_clock_related_to_itself` meets its contract: the invariant is that the entries from number i on decide.
-- Assumes nothing.
use Rattle.index.proofs.laws.Paths.{few_entries}
use mathlib.Core.Path.{refl}
use native.Mathlib.Omega.{arith}
use Rattle.manifest.specs.Rules.{refusal_24_clock_related_to_itself}
use Rattle.cited.specs.laws.Within.{applies_start, applies_here, applies_on, applies_past}
use Rattle.cited.proofs.refusal_24_clock_related_to_itself.Goals as goal

pub loop-i-init : goal.loop-i-init
unfolding refusal_24_clock_related_to_itself
loop-i-init c = (omega arith, applies_start refusal_24_clock_related_to_itself c.args.s.now c.args.ix.now refl refl)

pub itself_in-requires : goal.itself_in-requires
itself_in-requires c = (omega (arith, few_entries c.args.ix.now, c.entries-n.ensures, c.loop-i-test.true), c.requires.0, c.requires.1)

pub returns-then-itself_in : goal.returns-then-itself_in
returns-then-itself_in c = applies_here refusal_24_clock_related_to_itself c.args.s.now c.args.ix.now c.entries-n.ensures c.loop-i.invariant.1 c.loop-i-test.true c.itself_in.ensures c.if-itself_in.true

pub loop-i-preserved : goal.loop-i-preserved
loop-i-preserved c = (omega arith, applies_on refusal_24_clock_related_to_itself c.args.s.now c.args.ix.now c.entries-n.ensures c.loop-i.invariant.1 c.loop-i-test.true c.itself_in.ensures c.if-itself_in.false)

pub returns : goal.returns
returns c = applies_past refusal_24_clock_related_to_itself c.args.s.now c.args.ix.now c.entries-n.ensures c.loop-i.invariant.1 c.loop-i-test.false
