-- `values::same_as` meets its contract: the string is the text where what follows its first quote is, which a short text is told by where that ends in it, and a longer one by `same_long`.
-- Assumes nothing.
use mathlib.Core.Path.{sym, ◌∙◌}
use native.Mathlib.Omega.{arith}
use Rattle.text.specs.laws.Peek.{found_in}
use Rattle.values.proofs.Compare.{same_none, same_start, same_ends}
use Rattle.values.proofs.same_as.Goals as goal

pub returns-then-byte-ne34 : goal.returns-then-byte-ne34
returns-then-byte-ne34 c = same_none _ _ _ (λ q. c.if-byte-ne34.true (c.byte.ensures ∙ q))

pub overflow_add-at : goal.overflow_add-at
overflow_add-at c = omega (arith, found_in _ _ c.byte.ensures c.if-byte-ne34.false tt)

pub returns-then-t-lt16 : goal.returns-then-t-lt16
returns-then-t-lt16 c = same_ends _ _ c.begun.ensures ∙ same_start _ _ _ (sym c.byte.ensures ∙ c.if-byte-ne34.false)

pub overflow_add-at-2 : goal.overflow_add-at-2
overflow_add-at-2 c = omega (arith, found_in _ _ c.byte.ensures c.if-byte-ne34.false tt)

pub same_long-requires : goal.same_long-requires
same_long-requires c = omega (arith, found_in _ _ c.byte.ensures c.if-byte-ne34.false tt)

pub returns : goal.returns
returns c = c.same_long.ensures ∙ same_start _ _ _ (sym c.byte.ensures ∙ c.if-byte-ne34.false)
