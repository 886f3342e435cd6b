-- `text::low_after` meets its contract: a low surrogate alone is no character, and after a high one a backslash, a u and a low one are asked for as `low` asks for them.
-- Assumes nothing.
use mathlib.Core.Path.{sym, ◌∙◌}
use native.Mathlib.Omega.{arith}
use Rattle.text.specs.laws.Peek.{peek_at}
use Rattle.text.proofs.Hexes.{escape_in, long_low, twice_cut, twice_backslash, twice_u, twice_none, twice_long}
use Rattle.text.proofs.low_after.Goals as goal

pub returns-then-v-ne54 : goal.returns-then-v-ne54
returns-then-v-ne54 c = long_low _ _ c.requires.0 c.requires.1 c.requires.2 c.requires.3 c.if-v-ne54.true

pub overflow_sub-s : goal.overflow_sub-s
overflow_sub-s c = omega (arith, escape_in _ _ c.requires.0 c.requires.1)

pub returns-then-s-at-lt12 : goal.returns-then-s-at-lt12
returns-then-s-at-lt12 c = twice_cut _ _ c.requires.0 c.requires.1 c.requires.2 c.if-v-ne54.false (omega (arith, escape_in _ _ c.requires.0 c.requires.1))

pub overflow_add-at : goal.overflow_add-at
overflow_add-at c = omega (arith, escape_in _ _ c.requires.0 c.requires.1)

pub bounds-s-at : goal.bounds-s-at
bounds-s-at c = omega (arith, escape_in _ _ c.requires.0 c.requires.1)

pub returns-then-s-at-ne92 : goal.returns-then-s-at-ne92
returns-then-s-at-ne92 c = twice_backslash _ _ c.requires.0 c.requires.1 c.requires.2 c.if-v-ne54.false (λ q. c.if-s-at-ne92.true (peek_at _ _ (omega (arith, escape_in _ _ c.requires.0 c.requires.1)) ∙ q))

pub overflow_add-at-2 : goal.overflow_add-at-2
overflow_add-at-2 c = omega (arith, escape_in _ _ c.requires.0 c.requires.1)

pub bounds-s-at-2 : goal.bounds-s-at-2
bounds-s-at-2 c = omega (arith, escape_in _ _ c.requires.0 c.requires.1)

pub returns-then-s-at-ne117 : goal.returns-then-s-at-ne117
returns-then-s-at-ne117 c = twice_u _ _ c.requires.0 c.requires.1 c.requires.2 c.if-v-ne54.false (λ q. c.if-s-at-ne117.true (peek_at _ _ (omega (arith, escape_in _ _ c.requires.0 c.requires.1)) ∙ q))

pub overflow_add-at-3 : goal.overflow_add-at-3
overflow_add-at-3 c = omega (arith, escape_in _ _ c.requires.0 c.requires.1)

pub four_digits-w-requires : goal.four_digits-w-requires
four_digits-w-requires c = omega (arith, escape_in _ _ c.requires.0 c.requires.1)

pub returns-then-w-ne55 : goal.returns-then-w-ne55
returns-then-w-ne55 c = twice_none _ _ c.requires.0 c.requires.1 c.requires.2 c.if-v-ne54.false c.four_digits-w.ensures c.if-w-ne55.true

pub returns : goal.returns
returns c = twice_long _ _ c.requires.0 c.requires.1 c.requires.2 c.if-v-ne54.false c.four_digits-w.ensures (sym (peek_at _ _ (omega (arith, escape_in _ _ c.requires.0 c.requires.1))) ∙ c.if-s-at-ne92.false) (sym (peek_at _ _ (omega (arith, escape_in _ _ c.requires.0 c.requires.1))) ∙ c.if-s-at-ne117.false) c.if-w-ne55.false
