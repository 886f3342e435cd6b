-- `values::same_texts` meets its contract: both have to begin with a quote, and what follows the quotes is compared.
-- Assumes nothing.
use mathlib.Core.Path.{sym, ◌∙◌}
use native.Mathlib.Omega.{arith}
use Rattle.text.specs.laws.Peek.{found_in}
use Rattle.values.proofs.Compare.{both_left, both_right, both_start}
use Rattle.values.proofs.same_texts.Goals as goal

pub returns-then-byte-ne34 : goal.returns-then-byte-ne34
returns-then-byte-ne34 c = both_left _ _ _ (λ e. c.if-byte-ne34.true (c.byte.ensures ∙ e))

pub returns-then-byte-ne34-2 : goal.returns-then-byte-ne34-2
returns-then-byte-ne34-2 c = both_right _ _ _ (λ e. c.if-byte-ne34-2.true (c.byte-2.ensures ∙ e))

pub overflow_add-p : goal.overflow_add-p
overflow_add-p c = omega (arith, found_in _ _ c.byte.ensures c.if-byte-ne34.false tt)

pub overflow_add-q : goal.overflow_add-q
overflow_add-q c = omega (arith, found_in _ _ c.byte-2.ensures c.if-byte-ne34-2.false tt)

pub same_first-requires : goal.same_first-requires
same_first-requires c = (omega (arith, found_in _ _ c.byte.ensures c.if-byte-ne34.false tt), omega (arith, found_in _ _ c.byte-2.ensures c.if-byte-ne34-2.false tt))

pub returns : goal.returns
returns c = c.same_first.ensures ∙ both_start _ _ _ (sym c.byte.ensures ∙ c.if-byte-ne34.false) (sym c.byte-2.ensures ∙ c.if-byte-ne34-2.false)
