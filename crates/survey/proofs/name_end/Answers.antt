-- `survey::name_end` meets its contract: the name's string is read, and its colon stands behind the whitespace after it. Assumes nothing.
use mathlib.Core.Path.{refl}
use native.Mathlib.Omega.{arith}
use Rattle.text.specs.laws.Peek.{found_in}
use Rattle.survey.proofs.Ends.{name_ends}
use Rattle.survey.proofs.name_end.Goals as goal

pub returns-then-end-eq0 : goal.returns-then-end-eq0
returns-then-end-eq0 c = λ n. absurd (n refl)

pub overflow_add-result : goal.overflow_add-result
overflow_add-result c = omega (arith, found_in _ _ c.byte.ensures c.if-byte-eq58.true tt)

pub returns-then-byte-eq58 : goal.returns-then-byte-eq58
returns-then-byte-eq58 c = λ _. name_ends _ _ (c.string_end-end.ensures c.if-end-eq0.false) c.blank-colon.ensures c.byte.ensures c.if-byte-eq58.true

pub returns-else-byte-eq58 : goal.returns-else-byte-eq58
returns-else-byte-eq58 c = λ n. absurd (n refl)
