-- `table::escaped_head` meets its contract: each of the three tells the character that the escape is read as, and where it ends.
-- Assumes nothing.
use mathlib.Core.Path.{refl, sym}
use native.Mathlib.Omega.{arith}
use Rattle.text.specs.laws.Peek.{found_in}
use Rattle.table.specs.laws.Heads.{heads_short, heads_ascii, heads_of, heads_no}
use Rattle.table.proofs.escaped_head.Goals as goal

pub overflow_add-at : goal.overflow_add-at
overflow_add-at c = omega (arith, found_in _ _ (sym c.requires.1) refl tt)

pub overflow_add-result : goal.overflow_add-result
overflow_add-result c = omega (arith, found_in _ _ (sym c.requires.1) refl tt)

pub returns-then-a-gt0 : goal.returns-then-a-gt0
returns-then-a-gt0 c = heads_short _ _ c.requires.0 c.short-a.ensures c.if-a-gt0.true

pub overflow_add-at-2 : goal.overflow_add-at-2
overflow_add-at-2 c = omega (arith, found_in _ _ (sym c.requires.1) refl tt)

pub overflow_add-result-then-v-gt0 : goal.overflow_add-result-then-v-gt0
overflow_add-result-then-v-gt0 c = omega (arith, found_in _ _ (sym c.requires.1) refl tt)

pub returns-then-v-gt0 : goal.returns-then-v-gt0
returns-then-v-gt0 c = heads_ascii _ _ c.requires.0 c.ascii_escape-v.ensures c.if-v-gt0.true

pub overflow_add-at-3 : goal.overflow_add-at-3
overflow_add-at-3 c = omega (arith, found_in _ _ (sym c.requires.1) refl tt)

pub returns-in-Of : goal.returns-in-Of
returns-in-Of c = heads_of _ _ c.requires.0 c.character.ensures c.requires.1 c.in-Of.is

pub returns-in-No : goal.returns-in-No
returns-in-No c = heads_no _ _ c.requires.0 c.character.ensures c.requires.1 c.in-No.is
