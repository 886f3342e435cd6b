-- `listed::path_twice` meets its contract: the invariant is that the entries from number i on decide. Assumes nothing.
use mathlib.Core.Path.{refl}
use native.Mathlib.Omega.{arith}
use Rattle.index.proofs.laws.Entries.{applies_within}
use Rattle.listed.specs.laws.Rules.{paths_15}
use Rattle.listed.specs.laws.Judged.{loop_past, loop_found, loop_on}
use Rattle.listed.specs.laws.Twice.{path_decides}
use Rattle.listed.proofs.path_twice.Goals as goal

pub loop-i-init : goal.loop-i-init
unfolding paths_15
loop-i-init c = applies_within paths_15 c.args.s.now c.args.ix.now refl

pub path_before-requires : goal.path_before-requires
path_before-requires c = (omega (arith, c.entries-n.ensures, c.loop-i-test.true), c.requires)

pub returns-then-path_before : goal.returns-then-path_before
returns-then-path_before c = loop_found paths_15 c.args.s.now c.args.ix.now c.entries-n.ensures c.loop-i.invariant c.loop-i-test.true (path_decides c.args.s.now c.args.ix.now _ c.path_before.ensures) c.if-path_before.true

pub loop-i-preserved : goal.loop-i-preserved
loop-i-preserved c = loop_on paths_15 c.args.s.now c.args.ix.now c.entries-n.ensures c.loop-i.invariant c.loop-i-test.true (path_decides c.args.s.now c.args.ix.now _ c.path_before.ensures) c.if-path_before.false

pub returns : goal.returns
returns c = loop_past paths_15 c.args.s.now c.args.ix.now c.entries-n.ensures c.loop-i.invariant c.loop-i-test.false
