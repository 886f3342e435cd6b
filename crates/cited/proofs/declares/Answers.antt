-- `cited::declares` meets its contract: after the `machine` the invariant is that the items from number k on decide.
-- Assumes nothing.
use native.Mathlib.Omega.{arith}
use Rattle.index.specs.Index.{text_at}
use Rattle.cited.specs.laws.Declared.{declared_machine, declared_start, declared_here, declared_on, declared_past}
use Rattle.cited.proofs.declares.Goals as goal

pub returns-then-is_machine : goal.returns-then-is_machine
returns-then-is_machine c = declared_machine c.args.s.now c.args.ix.now c.args.e (text_at c.args.s.now c.args.p) c.is_machine.ensures c.if-is_machine.true

pub loop-k-init : goal.loop-k-init
loop-k-init c = (omega arith, declared_start c.args.s.now c.args.ix.now c.args.e (text_at c.args.s.now c.args.p) c.is_machine.ensures c.if-is_machine.false)

pub returns-then-same_name : goal.returns-then-same_name
returns-then-same_name c = declared_here c.args.s.now c.args.ix.now c.args.e (text_at c.args.s.now c.args.p) c.items-n.ensures c.loop-k.invariant.1 c.loop-k-test.true c.item-name.ensures c.same_name.ensures c.if-same_name.true

pub loop-k-preserved : goal.loop-k-preserved
loop-k-preserved c = (omega arith, declared_on c.args.s.now c.args.ix.now c.args.e (text_at c.args.s.now c.args.p) c.items-n.ensures c.loop-k.invariant.1 c.loop-k-test.true c.item-name.ensures c.same_name.ensures c.if-same_name.false)

pub returns : goal.returns
returns c = declared_past c.args.s.now c.args.ix.now c.args.e (text_at c.args.s.now c.args.p) c.items-n.ensures c.loop-k.invariant.1 c.loop-k-test.false
