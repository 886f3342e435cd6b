-- `same_bytes` compares the bytes at two positions. The invariant says that what is left of both is equal exactly if all is. Assumes nothing.
use Rattle.sheet.proofs.Again.{differ, agree, none_left, all_left}
use native.Mathlib.Omega.{arith}
use mathlib.Core.Path.{◌∙◌}
use Rattle.sheet.proofs.same_bytes.Goals as goal

pub loop-k-init : goal.loop-k-init
loop-k-init c = all_left c.args.s.now c.args.a c.args.b c.args.n

pub returns-then-x-y : goal.returns-then-x-y
returns-then-x-y c = differ c.args.s.now c.args.a c.args.b c.args.n c.loop-k.k c.take-x.ensures c.take-y.ensures (omega arith) (omega arith) (omega arith) c.if-x-y.true ∙ c.loop-k.invariant

pub loop-k-preserved : goal.loop-k-preserved
loop-k-preserved c = agree c.args.s.now c.args.a c.args.b c.args.n c.loop-k.k c.take-x.ensures c.take-y.ensures (omega arith) (omega arith) (omega arith) c.if-x-y.false ∙ c.loop-k.invariant

pub returns : goal.returns
returns c = none_left c.args.s.now c.args.a c.args.b c.args.n c.loop-k.k (omega arith) ∙ c.loop-k.invariant
