-- `cited::refusal_21_machine_not_declared` meets its contract: what stands outside the entries is asked first; then the invariant is that the entries from number i on decide.
-- Assumes nothing.
use Rattle.index.proofs.laws.Paths.{few_entries}
use native.Mathlib.Omega.{arith}
use Rattle.manifest.specs.Rules.{refusal_21_machine_not_declared}
use Rattle.cited.specs.laws.Within.{applies_before, applies_start, applies_here, applies_on, applies_past}
use Rattle.cited.proofs.refusal_21_machine_not_declared.Goals as goal

pub refusal_21_outside-requires : goal.refusal_21_outside-requires
refusal_21_outside-requires c = c.requires.1

pub returns-then-refusal_21_outside : goal.returns-then-refusal_21_outside
returns-then-refusal_21_outside c = applies_before refusal_21_machine_not_declared c.args.s.now c.args.ix.now c.refusal_21_outside.ensures c.if-refusal_21_outside.true

pub loop-i-init : goal.loop-i-init
loop-i-init c = (omega arith, applies_start refusal_21_machine_not_declared c.args.s.now c.args.ix.now c.refusal_21_outside.ensures c.if-refusal_21_outside.false)

pub refusal_21_in-requires : goal.refusal_21_in-requires
refusal_21_in-requires c = (omega (arith, few_entries c.args.ix.now, c.entries-n.ensures, c.loop-i-test.true), c.requires.0)

pub returns-then-refusal_21_in : goal.returns-then-refusal_21_in
returns-then-refusal_21_in c = applies_here refusal_21_machine_not_declared c.args.s.now c.args.ix.now c.entries-n.ensures c.loop-i.invariant.1 c.loop-i-test.true c.refusal_21_in.ensures c.if-refusal_21_in.true

pub loop-i-preserved : goal.loop-i-preserved
loop-i-preserved c = (omega arith, applies_on refusal_21_machine_not_declared c.args.s.now c.args.ix.now c.entries-n.ensures c.loop-i.invariant.1 c.loop-i-test.true c.refusal_21_in.ensures c.if-refusal_21_in.false)

pub returns : goal.returns
returns c = applies_past refusal_21_machine_not_declared c.args.s.now c.args.ix.now c.entries-n.ensures c.loop-i.invariant.1 c.loop-i-test.false
