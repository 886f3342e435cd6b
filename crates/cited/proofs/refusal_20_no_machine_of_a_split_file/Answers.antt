-- `cited::refusal_20_no_machine_of_a_split_file` meets its contract: the invariant is that the entries from number i on decide.
-- Assumes nothing.
use Rattle.index.proofs.laws.Paths.{few_entries}
use mathlib.Core.Path.{refl}
use native.Mathlib.Omega.{arith}
use Rattle.manifest.specs.Rules.{refusal_20_no_machine_of_a_split_file}
use Rattle.cited.specs.laws.Within.{applies_start, applies_here, applies_on, applies_past}
use Rattle.cited.proofs.refusal_20_no_machine_of_a_split_file.Goals as goal

pub loop-i-init : goal.loop-i-init
unfolding refusal_20_no_machine_of_a_split_file
loop-i-init c = (omega arith, applies_start refusal_20_no_machine_of_a_split_file c.args.s.now c.args.ix.now refl refl)

pub refusal_20_in-requires : goal.refusal_20_in-requires
refusal_20_in-requires c = (omega (arith, few_entries c.args.ix.now, c.entries-n.ensures, c.loop-i-test.true), c.requires)

pub returns-then-refusal_20_in : goal.returns-then-refusal_20_in
returns-then-refusal_20_in c = applies_here refusal_20_no_machine_of_a_split_file c.args.s.now c.args.ix.now c.entries-n.ensures c.loop-i.invariant.1 c.loop-i-test.true c.refusal_20_in.ensures c.if-refusal_20_in.true

pub loop-i-preserved : goal.loop-i-preserved
loop-i-preserved c = (omega arith, applies_on refusal_20_no_machine_of_a_split_file c.args.s.now c.args.ix.now c.entries-n.ensures c.loop-i.invariant.1 c.loop-i-test.true c.refusal_20_in.ensures c.if-refusal_20_in.false)

pub returns : goal.returns
returns c = applies_past refusal_20_no_machine_of_a_split_file c.args.s.now c.args.ix.now c.entries-n.ensures c.loop-i.invariant.1 c.loop-i-test.false
