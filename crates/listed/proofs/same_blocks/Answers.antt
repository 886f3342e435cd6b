-- `listed::same_blocks` meets its contract: the loop keeps that the k bytes passed are the same and no more than n; a block of 16 such bytes after them keeps it so.
-- Assumes nothing.
use native.Mathlib.Omega.{arith}
use Rattle.listed.specs.laws.Slots.{agree_none, agree_join}
use Rattle.listed.proofs.same_blocks.Goals as goal

pub loop-k-init : goal.loop-k-init
loop-k-init c = (omega arith, agree_none)

pub overflow_add-i : goal.overflow_add-i
overflow_add-i c = omega arith

pub overflow_add-j : goal.overflow_add-j
overflow_add-j c = omega arith

pub returns-then-not-same_block : goal.returns-then-not-same_block
returns-then-not-same_block c = c.loop-k.invariant

pub overflow_add-k : goal.overflow_add-k
overflow_add-k c = omega arith

pub loop-k-smaller : goal.loop-k-smaller
loop-k-smaller c = omega arith

pub loop-k-preserved : goal.loop-k-preserved
loop-k-preserved c = (omega arith, agree_join c.loop-k.invariant.1 (c.same_block.ensures c.if-not-same_block.false))

pub returns : goal.returns
returns c = c.loop-k.invariant
