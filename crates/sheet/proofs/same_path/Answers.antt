-- `same_path` compares a path with other bytes. The invariant says that what is left of both from byte i on is equal exactly if all is. Assumes nothing.
use Rattle.sheet.proofs.Again.{path_near, path_unequal, rest_start, rest_differ, rest_agree, rest_none}
use Prim.Native.Nat.{◌<◌}
use native.Mathlib.Omega.{arith}
use mathlib.Core.Path.{refl, sym, ◌∙◌}
use Rattle.sheet.proofs.same_path.Goals as goal

pub returns-then-from-t : goal.returns-then-from-t
returns-then-from-t c = path_unequal c.args.s.now c.args.t.now c.args.at c.head_at-h.ensures c.from.ensures c.if-from-t.true

pub loop-i-init : goal.loop-i-init
loop-i-init c = rest_start c.args.s.now c.args.t.now c.args.at c.head_at-h.ensures (sym c.if-from-t.false ∙ c.from.ensures)

pub overflow_add-at : goal.overflow_add-at
overflow_add-at c = let q : c.args.at < 0x1000000000 = path_near c.args.s.now c.args.t.now c.args.at c.head_at-h.ensures c.from.ensures (omega arith) in omega arith

pub overflow_mul-i : goal.overflow_mul-i
overflow_mul-i c = let q : c.args.at < 0x1000000000 = path_near c.args.s.now c.args.t.now c.args.at c.head_at-h.ensures c.from.ensures (omega arith) in omega arith

pub overflow_add-at-in-loop-i : goal.overflow_add-at-in-loop-i
overflow_add-at-in-loop-i c = let q : c.args.at < 0x1000000000 = path_near c.args.s.now c.args.t.now c.args.at c.head_at-h.ensures c.from.ensures (omega arith) in omega arith

pub returns-then-x-from : goal.returns-then-x-from
returns-then-x-from c =
    rest_differ c.args.s.now c.args.t.now c.args.at c.head_at-h.ensures (sym c.if-from-t.false ∙ c.from.ensures) c.loop-i.i refl c.take-x.ensures c.loop-i-test.true
    (λ e. c.if-x-from.true (e ∙ sym c.from-in-loop-i.ensures))
    ∙ c.loop-i.invariant

pub loop-i-preserved : goal.loop-i-preserved
loop-i-preserved c =
    rest_agree c.args.s.now c.args.t.now c.args.at c.head_at-h.ensures (sym c.if-from-t.false ∙ c.from.ensures) c.loop-i.i refl c.take-x.ensures c.loop-i-test.true
    (c.if-x-from.false ∙ c.from-in-loop-i.ensures)
    ∙ c.loop-i.invariant

pub returns : goal.returns
returns c = rest_none c.args.s.now c.args.t.now c.args.at c.head_at-h.ensures (sym c.if-from-t.false ∙ c.from.ensures) c.loop-i.i refl (omega arith) ∙ c.loop-i.invariant
