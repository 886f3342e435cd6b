-- `text::long_escape` meets its contract: what is cut off by the end, has no u or has a byte that is no digit is no escape, and a number that is no surrogate is the code point.
-- Assumes nothing.
use mathlib.Core.Path.{sym, ◌∙◌}
use native.Mathlib.Omega.{arith}
use Rattle.text.specs.laws.Peek.{peek_at}
use Rattle.text.proofs.Hexes.{begins_in, long_ends, long_other, long_no_digits, long_alone}
use Rattle.text.proofs.long_escape.Goals as goal

pub overflow_sub-s : goal.overflow_sub-s
overflow_sub-s c = omega (arith, begins_in _ _ c.requires)

pub returns-then-s-at-lt6 : goal.returns-then-s-at-lt6
returns-then-s-at-lt6 c = long_ends _ _ c.requires (omega (arith, begins_in _ _ c.requires))

pub overflow_add-at : goal.overflow_add-at
overflow_add-at c = omega (arith, begins_in _ _ c.requires)

pub bounds-s-at : goal.bounds-s-at
bounds-s-at c = omega (arith, begins_in _ _ c.requires)

pub returns-then-s-at-ne117 : goal.returns-then-s-at-ne117
returns-then-s-at-ne117 c = long_other _ _ c.requires (λ q. c.if-s-at-ne117.true (peek_at _ _ (omega (arith, begins_in _ _ c.requires)) ∙ q))

pub overflow_add-at-2 : goal.overflow_add-at-2
overflow_add-at-2 c = omega (arith, begins_in _ _ c.requires)

pub four_digits-v-requires : goal.four_digits-v-requires
four_digits-v-requires c = omega (arith, begins_in _ _ c.requires)

pub returns-then-v-gt65535 : goal.returns-then-v-gt65535
returns-then-v-gt65535 c = long_no_digits _ _ c.requires (sym (peek_at _ _ (omega (arith, begins_in _ _ c.requires))) ∙ c.if-s-at-ne117.false) c.four_digits-v.ensures c.if-v-gt65535.true

pub overflow_mul-result : goal.overflow_mul-result
overflow_mul-result c = omega arith

pub overflow_add-result : goal.overflow_add-result
overflow_add-result c = omega arith

pub returns-then-v-ne27 : goal.returns-then-v-ne27
returns-then-v-ne27 c = long_alone _ _ c.requires (sym (peek_at _ _ (omega (arith, begins_in _ _ c.requires))) ∙ c.if-s-at-ne117.false) c.four_digits-v.ensures (omega (arith, c.if-v-gt65535.false)) c.if-v-ne27.true

pub low_after-requires : goal.low_after-requires
low_after-requires c = (c.requires, (sym (peek_at _ _ (omega (arith, begins_in _ _ c.requires))) ∙ c.if-s-at-ne117.false), c.four_digits-v.ensures, c.if-v-ne27.false)

pub returns : goal.returns
returns c = c.low_after.ensures
