-- `fills::first_in` meets its contract, which has the code's two tests.
-- Assumes nothing.
use native.Mathlib.Omega.{arith}
use Rattle.text.specs.laws.Peek.{found_lt}
use Rattle.fills.proofs.Steps.{open_empty, open_other, open_some}
use Rattle.fills.proofs.first_in.Goals as goal

pub returns-then-byte-opening : goal.returns-then-byte-opening
returns-then-byte-opening c = open_other _ _ _ _ c.byte.ensures c.if-byte-opening.true c.past.ensures

pub overflow_add-p : goal.overflow_add-p
overflow_add-p c = omega (arith, found_lt _ _ c.byte.ensures c.if-byte-opening.false c.requires.0)

pub overflow_add-result : goal.overflow_add-result
overflow_add-result c = omega (arith, found_lt _ _ c.byte-2.ensures c.if-byte-closing.true c.requires.1)

pub returns-then-byte-closing : goal.returns-then-byte-closing
returns-then-byte-closing c = open_empty _ _ _ _ c.byte.ensures c.if-byte-opening.false c.blank-i.ensures c.byte-2.ensures c.if-byte-closing.true

pub returns-else-byte-closing : goal.returns-else-byte-closing
returns-else-byte-closing c = open_some _ _ _ _ c.byte.ensures c.if-byte-opening.false c.blank-i.ensures c.byte-2.ensures c.if-byte-closing.false
