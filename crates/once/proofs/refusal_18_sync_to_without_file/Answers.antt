-- `once::refusal_18_sync_to_without_file` meets its contract: the invariant is that the entries from number i on decide.
-- Assumes nothing.
use mathlib.Core.Path.{refl}
use Rattle.manifest.specs.Rules.{refusal_18_sync_to_without_file}
use Rattle.index.proofs.laws.Entries.{applies_within}
use Rattle.once.proofs.Loops.{loop_past, loop_found, loop_on}
use Rattle.once.proofs.refusal_18_sync_to_without_file.Goals as goal

pub loop-i-init : goal.loop-i-init
unfolding refusal_18_sync_to_without_file
loop-i-init c = applies_within refusal_18_sync_to_without_file c.args.s.now c.args.ix.now refl

pub returns-then-sync_to_without_file_in : goal.returns-then-sync_to_without_file_in
returns-then-sync_to_without_file_in c = loop_found refusal_18_sync_to_without_file c.args.s.now c.args.ix.now c.entries-n.ensures c.loop-i.invariant c.loop-i-test.true c.sync_to_without_file_in.ensures c.if-sync_to_without_file_in.true

pub loop-i-preserved : goal.loop-i-preserved
loop-i-preserved c = loop_on refusal_18_sync_to_without_file c.args.s.now c.args.ix.now c.entries-n.ensures c.loop-i.invariant c.loop-i-test.true c.sync_to_without_file_in.ensures c.if-sync_to_without_file_in.false

pub returns : goal.returns
returns c = loop_past refusal_18_sync_to_without_file c.args.s.now c.args.ix.now c.entries-n.ensures c.loop-i.invariant c.loop-i-test.false
