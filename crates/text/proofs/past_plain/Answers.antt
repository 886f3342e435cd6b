-- `text::past_plain` meets its contract: each part follows the same run of plain bytes, and the last one to its end; past the end there is none.
-- Assumes nothing.
use native.Mathlib.Omega.{arith}
use mathlib.Core.Path.{sym, ap, ◌∙◌}
use Rattle.text.specs.laws.Plain.{past_own, own_past, own_over, near_all}
use Rattle.text.proofs.past_plain.Goals as goal

pub returns-then-s-at : goal.returns-then-s-at
returns-then-s-at c = sym (own_past _ _ c.if-s-at.true)

pub returns-then-s-at-lt16 : goal.returns-then-s-at-lt16
returns-then-s-at-lt16 c = own_over _ _ c.past_singly.ensures.0 c.past_singly.ensures.1.1

pub returns-then-near-lt8 : goal.returns-then-near-lt8
returns-then-near-lt8 c = sym (c.plain_near-near.ensures.ahead ∙ c.plain_near-near.ensures.stops c.if-near-lt8.true)

pub returns-then-next-lt8 : goal.returns-then-next-lt8
returns-then-next-lt8 c = sym (near_all _ _ c.plain_near-near.ensures c.if-near-lt8.false ∙ c.plain_near-next.ensures.ahead ∙ c.plain_near-next.ensures.stops c.if-next-lt8.true)

pub returns : goal.returns
returns c = own_over _ _ (near_all _ _ c.plain_near-near.ensures c.if-near-lt8.false ∙ near_all _ _ c.plain_near-next.ensures c.if-next-lt8.false ∙ ap (past_own _) (omega arith) ∙ c.past_blocks.ensures.0 ∙ c.past_singly-2.ensures.0) c.past_singly-2.ensures.1.1
