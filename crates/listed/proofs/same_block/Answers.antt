-- `listed::same_block` meets its contract: the loop keeps that m of the q bytes passed were counted as the same, and that all are where m is q. So they are where 16 of 16 were counted.
-- Assumes nothing.
use native.Mathlib.Omega.{arith}
use borrow.Author.Rules.{rules}
use borrow.Author.Tests.{eqb-true}
use Rattle.listed.specs.laws.Slots.{counted_none, counted_more, counted_all}
use Rattle.listed.proofs.same_block.Goals as goal

pub loop-q-init : goal.loop-q-init
loop-q-init c = (search rules, counted_none)

pub overflow_add-i : goal.overflow_add-i
overflow_add-i c = omega arith

pub bounds-texts-i : goal.bounds-texts-i
bounds-texts-i c = omega arith

pub overflow_add-j : goal.overflow_add-j
overflow_add-j c = omega arith

pub bounds-texts-j : goal.bounds-texts-j
bounds-texts-j c = omega arith

pub overflow_add-m : goal.overflow_add-m
overflow_add-m c = omega (arith, c.loop-q.invariant.1.few, c.same_one-m.ensures.0)

pub loop-q-preserved : goal.loop-q-preserved
loop-q-preserved c = (search rules, counted_more c.loop-q.invariant.1 c.same_one-m.ensures)

pub returns : goal.returns
returns c = λ e. counted_all c.loop-q.invariant.1 (omega arith) (eqb-true _ _ e)
