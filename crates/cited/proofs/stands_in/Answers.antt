-- `cited::stands_in` meets its contract: the text at a position is the same as itself, whatever stands there. The loop passes over the items, and nothing is said of those before.
-- Assumes nothing.
use mathlib.Core.Path.{sym}
use mathlib.Core.Bool.{true≢false}
use native.Mathlib.Omega.{arith}
use Rattle.cited.specs.laws.Declared.{stands_machine, stands_item}
use Rattle.cited.proofs.stands_in.Goals as goal

pub returns-then-col-p : goal.returns-then-col-p
returns-then-col-p c = λ s _. stands_machine s c.args.ix.now c.args.e c.args.p c.requires c.col.ensures c.if-col-ne0.true c.col-then-col-ne0.ensures c.if-col-p.true

pub loop-k-init : goal.loop-k-init
loop-k-init c = omega arith

pub returns-then-item-p : goal.returns-then-item-p
returns-then-item-p c = λ s _. stands_item s c.args.ix.now c.args.e c.args.p c.requires c.items-n.ensures c.loop-k-test.true c.item.ensures c.if-item-p.true

pub loop-k-preserved : goal.loop-k-preserved
loop-k-preserved c = omega arith

pub returns : goal.returns
returns c = λ s h. absurd (true≢false (sym h))
