-- `values::code_at` meets its contract: a byte that is a character by itself is its own code point, and an escape of two bytes is told by `short`.
-- Assumes nothing.
use mathlib.Core.Path.{sym, ◌∙◌}
use native.Mathlib.Omega.{arith}
use Rattle.text.specs.laws.Escapes.{short_few}
use Rattle.values.proofs.Compare.{coded_byte, coded_short}
use Rattle.values.proofs.code_at.Goals as goal

pub overflow_mul-result : goal.overflow_mul-result
overflow_mul-result c = omega (arith, (c.ordinary.ensures.0 c.if-ordinary.true).high)

pub overflow_add-result : goal.overflow_add-result
overflow_add-result c = omega (arith, (c.ordinary.ensures.0 c.if-ordinary.true).high)

pub returns-then-ordinary : goal.returns-then-ordinary
returns-then-ordinary c = coded_byte _ _ c.requires.0 c.requires.1 (c.ordinary.ensures.0 c.if-ordinary.true)

pub overflow_mul-result-then-a-gt0 : goal.overflow_mul-result-then-a-gt0
overflow_mul-result-then-a-gt0 c = omega (arith, short_few _ _ c.short-a.ensures)

pub overflow_add-result-then-a-gt0 : goal.overflow_add-result-then-a-gt0
overflow_add-result-then-a-gt0 c = omega (arith, short_few _ _ c.short-a.ensures)

pub returns-then-a-gt0 : goal.returns-then-a-gt0
returns-then-a-gt0 c = coded_short _ _ c.short-a.ensures c.if-a-gt0.true

pub wide_code-requires : goal.wide_code-requires
wide_code-requires c = (c.requires.0, sym c.short-a.ensures ∙ omega (arith, c.if-a-gt0.false))

pub returns : goal.returns
returns c = c.wide_code.ensures
