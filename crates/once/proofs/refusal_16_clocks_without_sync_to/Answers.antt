-- `once::refusal_16_clocks_without_sync_to` meets its contract: the invariant is that the entries from number i on decide.
-- Assumes nothing.
use mathlib.Core.Path.{refl}
use Rattle.manifest.specs.Rules.{refusal_16_clocks_without_sync_to}
use Rattle.index.proofs.laws.Entries.{applies_within}
use Rattle.once.proofs.Loops.{loop_past, loop_found, loop_on}
use Rattle.once.proofs.refusal_16_clocks_without_sync_to.Goals as goal

pub loop-i-init : goal.loop-i-init
unfolding refusal_16_clocks_without_sync_to
loop-i-init c = applies_within refusal_16_clocks_without_sync_to c.args.s.now c.args.ix.now refl

pub returns-then-clocks_without_sync_to_in : goal.returns-then-clocks_without_sync_to_in
returns-then-clocks_without_sync_to_in c = loop_found refusal_16_clocks_without_sync_to c.args.s.now c.args.ix.now c.entries-n.ensures c.loop-i.invariant c.loop-i-test.true c.clocks_without_sync_to_in.ensures c.if-clocks_without_sync_to_in.true

pub loop-i-preserved : goal.loop-i-preserved
loop-i-preserved c = loop_on refusal_16_clocks_without_sync_to c.args.s.now c.args.ix.now c.entries-n.ensures c.loop-i.invariant c.loop-i-test.true c.clocks_without_sync_to_in.ensures c.if-clocks_without_sync_to_in.false

pub returns : goal.returns
returns c = loop_past refusal_16_clocks_without_sync_to c.args.s.now c.args.ix.now c.entries-n.ensures c.loop-i.invariant c.loop-i-test.false
