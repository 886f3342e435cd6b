-- `values::alike_blocks` meets its contract: the loop keeps that the n bytes passed are plain and the same, and that as many are left in the text; a block of such bytes keeps it so.
-- Assumes nothing.
use native.Mathlib.Omega.{arith}
use Rattle.values.specs.laws.Alike.{alike_none, alike_join}
use Rattle.values.proofs.alike_blocks.Goals as goal

pub loop-n-init : goal.loop-n-init
loop-n-init c = (omega arith, alike_none _ _ _ _ c.requires.0 c.requires.1)

pub overflow_add-i : goal.overflow_add-i
overflow_add-i c = omega (arith, c.room-last.ensures.0)

pub overflow_add-k : goal.overflow_add-k
overflow_add-k c = omega (arith, c.room-last.ensures.1)

pub twice_block-requires : goal.twice_block-requires
twice_block-requires c = (omega (arith, c.room-last.ensures.0), omega (arith, c.room-last.ensures.1))

pub returns-then-not-twice_block : goal.returns-then-not-twice_block
returns-then-not-twice_block c = c.loop-n.invariant.1

pub overflow_add-n : goal.overflow_add-n
overflow_add-n c = omega (arith, c.room-last.ensures.0)

pub loop-n-smaller : goal.loop-n-smaller
loop-n-smaller c = omega arith

pub loop-n-preserved : goal.loop-n-preserved
loop-n-preserved c = (omega arith, alike_join c.loop-n.invariant.1 (c.twice_block.ensures c.if-not-twice_block.false))

pub returns : goal.returns
returns c = c.loop-n.invariant.1
