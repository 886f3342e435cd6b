-- `values::wide_code` meets its contract: after a backslash that begins no escape of two bytes `long` tells the escape, and a character that is not escaped has 4 bytes at most.
-- Assumes nothing.
use mathlib.Core.Path.{sym, ◌∙◌}
use native.Mathlib.Omega.{arith}
use Rattle.values.specs.laws.Rest.{code_of_lem, code_no}
use Rattle.values.proofs.Compare.{read_few, coded_long, coded_read, coded_none}
use Rattle.values.proofs.wide_code.Goals as goal

pub returns-then-b-eq92 : goal.returns-then-b-eq92
returns-then-b-eq92 c = coded_long _ _ (sym c.requires.0 ∙ c.if-b-eq92.true) c.requires.1 c.long.ensures

pub overflow_mul-result : goal.overflow_mul-result
overflow_mul-result c = omega (arith, (read_few _ (code_of_lem _ c.character.ensures c.in-Of.is) (λ q. c.if-b-eq92.false (c.requires.0 ∙ q))).0, (read_few _ (code_of_lem _ c.character.ensures c.in-Of.is) (λ q. c.if-b-eq92.false (c.requires.0 ∙ q))).1, (read_few _ (code_of_lem _ c.character.ensures c.in-Of.is) (λ q. c.if-b-eq92.false (c.requires.0 ∙ q))).2)

pub overflow_sub-result : goal.overflow_sub-result
overflow_sub-result c = omega (arith, (read_few _ (code_of_lem _ c.character.ensures c.in-Of.is) (λ q. c.if-b-eq92.false (c.requires.0 ∙ q))).0, (read_few _ (code_of_lem _ c.character.ensures c.in-Of.is) (λ q. c.if-b-eq92.false (c.requires.0 ∙ q))).1, (read_few _ (code_of_lem _ c.character.ensures c.in-Of.is) (λ q. c.if-b-eq92.false (c.requires.0 ∙ q))).2)

pub overflow_cast-result : goal.overflow_cast-result
overflow_cast-result c = omega (arith, (read_few _ (code_of_lem _ c.character.ensures c.in-Of.is) (λ q. c.if-b-eq92.false (c.requires.0 ∙ q))).0, (read_few _ (code_of_lem _ c.character.ensures c.in-Of.is) (λ q. c.if-b-eq92.false (c.requires.0 ∙ q))).1, (read_few _ (code_of_lem _ c.character.ensures c.in-Of.is) (λ q. c.if-b-eq92.false (c.requires.0 ∙ q))).2)

pub overflow_add-result : goal.overflow_add-result
overflow_add-result c = omega (arith, (read_few _ (code_of_lem _ c.character.ensures c.in-Of.is) (λ q. c.if-b-eq92.false (c.requires.0 ∙ q))).0, (read_few _ (code_of_lem _ c.character.ensures c.in-Of.is) (λ q. c.if-b-eq92.false (c.requires.0 ∙ q))).1, (read_few _ (code_of_lem _ c.character.ensures c.in-Of.is) (λ q. c.if-b-eq92.false (c.requires.0 ∙ q))).2)

pub returns-in-Of : goal.returns-in-Of
returns-in-Of c = coded_read _ _ (code_of_lem _ c.character.ensures c.in-Of.is) (λ q. c.if-b-eq92.false (c.requires.0 ∙ q))

pub returns-in-No : goal.returns-in-No
returns-in-No c = coded_none _ _ (code_no _ c.character.ensures c.in-No.is)
