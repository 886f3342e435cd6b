-- `outline::not_one_at` meets its contract: the bits of an integer are those of 1 only if it is 1, and what 64 bits do not hold is not 1. Assumes nothing.
use Rattle.outline.proofs.Steps.{not_one_in, not_one_below, not_one_above, not_one_none}
use borrow.Author.Rules.{rules}
use Rattle.outline.proofs.not_one_at.Goals as goal

pub returns-in-In : goal.returns-in-In
returns-in-In c = not_one_in _ _ c.integer_at.ensures c.in-In.is (search rules)

pub returns-in-Below : goal.returns-in-Below
returns-in-Below c = not_one_below _ _ c.integer_at.ensures c.in-Below.is

pub returns-in-Above : goal.returns-in-Above
returns-in-Above c = not_one_above _ _ c.integer_at.ensures c.in-Above.is

pub returns-in-None : goal.returns-in-None
returns-in-None c = not_one_none _ _ c.integer_at.ensures c.in-None.is
