-- `sizes::refusal_12_machine_with_machines` meets its contract. The loop's invariant: the entries from number i on decide; nothing else is looked at.
-- Assumes nothing.
use mathlib.Core.Path.{refl}
use Rattle.manifest.specs.Rules.{refusal_12_machine_with_machines}
use Rattle.index.proofs.laws.Entries.{applies_within}
use Rattle.sizes.proofs.Judged.{within_hit, within_miss, within_none}
use Rattle.sizes.proofs.refusal_12_machine_with_machines.Goals as goal

pub loop-i-init : goal.loop-i-init
unfolding refusal_12_machine_with_machines
loop-i-init c = applies_within refusal_12_machine_with_machines c.args.s.now c.args.ix.now refl

pub returns-then-refusal_12_within : goal.returns-then-refusal_12_within
returns-then-refusal_12_within c = within_hit refusal_12_machine_with_machines c.args.s.now c.args.ix.now c.entries-n.ensures c.loop-i.invariant c.loop-i-test.true c.refusal_12_within.ensures c.if-refusal_12_within.true

pub loop-i-preserved : goal.loop-i-preserved
loop-i-preserved c = within_miss refusal_12_machine_with_machines c.args.s.now c.args.ix.now c.entries-n.ensures c.loop-i.invariant c.loop-i-test.true c.refusal_12_within.ensures c.if-refusal_12_within.false

pub returns : goal.returns
returns c = within_none refusal_12_machine_with_machines c.args.s.now c.args.ix.now c.entries-n.ensures c.loop-i.invariant c.loop-i-test.false
