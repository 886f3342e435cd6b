-- `survey::closes` meets its contract: the byte past the member is a brace, and past that there is none. Assumes nothing.
use mathlib.Core.Path.{sym}
use mathlib.Core.Bool.{true≢false}
use native.Mathlib.Omega.{arith}
use Rattle.text.specs.laws.Peek.{found_in}
use Rattle.survey.specs.laws.Sole.{closed}
use Rattle.survey.proofs.closes.Goals as goal

pub returns-then-byte-ne125 : goal.returns-then-byte-ne125
returns-then-byte-ne125 c = λ q. absurd (true≢false (sym q))

pub overflow_add-end : goal.overflow_add-end
overflow_add-end c = omega (arith, found_in _ _ c.byte.ensures c.if-byte-ne125.false tt)

pub returns : goal.returns
returns c = λ q. closed _ _ c.blank-end.ensures c.byte.ensures c.if-byte-ne125.false c.blank.ensures c.byte-2.ensures q
