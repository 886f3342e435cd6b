-- `survey::bare` meets its contract: the bracket that opens and, past the whitespace, the one that closes were read. Assumes nothing.
use mathlib.Core.Path.{refl}
use native.Mathlib.Omega.{arith}
use Rattle.text.specs.laws.Peek.{found_in}
use Rattle.survey.proofs.Going.{bare_told}
use Rattle.survey.proofs.bare.Goals as goal

pub returns-then-byte-ne91 : goal.returns-then-byte-ne91
returns-then-byte-ne91 c = λ n. absurd (n refl)

pub overflow_add-at : goal.overflow_add-at
overflow_add-at c = omega (arith, found_in _ _ c.byte.ensures c.if-byte-ne91.false tt)

pub overflow_add-result : goal.overflow_add-result
overflow_add-result c = omega (arith, found_in _ _ c.byte-2.ensures c.if-byte-eq93.true tt)

pub returns-then-byte-eq93 : goal.returns-then-byte-eq93
returns-then-byte-eq93 c = λ _. bare_told c.byte.ensures c.if-byte-ne91.false c.blank-i.ensures c.byte-2.ensures c.if-byte-eq93.true

pub returns-else-byte-eq93 : goal.returns-else-byte-eq93
returns-else-byte-eq93 c = λ n. absurd (n refl)
