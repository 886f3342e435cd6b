-- `text::past_blocks` meets its contract: the loop keeps that the run of plain bytes from `at` ends where the one from i does, and a block of plain bytes keeps it so.
-- Assumes nothing.
use mathlib.Core.Path.{refl, ◌∙◌}
use borrow.Author.Rules.{rules}
use Rattle.text.proofs.past_blocks.Goals as goal

pub loop-i-init : goal.loop-i-init
loop-i-init c = (refl, search rules)

pub returns-then-not-plain_block : goal.returns-then-not-plain_block
returns-then-not-plain_block c = (c.loop-i.invariant.0, search rules)

pub loop-i-preserved : goal.loop-i-preserved
loop-i-preserved c = (c.loop-i.invariant.0 ∙ c.plain_block.ensures c.if-not-plain_block.false, search rules)

pub returns : goal.returns
returns c = (c.loop-i.invariant.0, search rules)
