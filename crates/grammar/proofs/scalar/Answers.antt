-- `grammar::scalar` meets its contract: the first byte says which of the five readers `scalar` is, and what that one's function ensures is what is asked.
-- Assumes nothing.
use mathlib.Core.Path.{◌∙◌}
use Rattle.grammar.proofs.Coded.{is_string, is_true, is_false, is_null, is_number}
use Rattle.grammar.proofs.scalar.Goals as goal

pub returns-then-b-eq34 : goal.returns-then-b-eq34
returns-then-b-eq34 c = is_string _ _ c.byte-b.ensures c.if-b-eq34.true (c.told.ensures ∙ c.string.ensures)

pub returns-then-b-eq116 : goal.returns-then-b-eq116
returns-then-b-eq116 c = is_true _ _ c.byte-b.ensures c.if-b-eq116.true c.literal.ensures

pub returns-then-b-eq102 : goal.returns-then-b-eq102
returns-then-b-eq102 c = is_false _ _ c.byte-b.ensures c.if-b-eq102.true c.literal-then-b-eq102.ensures

pub returns-then-b-eq110 : goal.returns-then-b-eq110
returns-then-b-eq110 c = is_null _ _ c.byte-b.ensures c.if-b-eq110.true c.literal-then-b-eq110.ensures

pub returns : goal.returns
returns c = is_number _ _ c.byte-b.ensures c.if-b-eq34.false c.if-b-eq116.false c.if-b-eq102.false c.if-b-eq110.false (c.told-2.ensures ∙ c.number.ensures)
