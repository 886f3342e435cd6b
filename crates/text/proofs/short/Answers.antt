-- `text::short` meets its contract: its test is that of `short_at`.
-- Assumes nothing.
use mathlib.Core.Path.{sym, ◌∙◌}
use native.Mathlib.Omega.{arith}
use borrow.Author.Tests.{eq-eqb, ne_eqb}
use Rattle.text.specs.laws.Peek.{found_in}
use Rattle.text.specs.laws.Readers.{pick_true, pick_false}
use Rattle.text.specs.Escapes.{short_at}
use Rattle.text.proofs.short.Goals as goal

pub returns-then-byte-ne92 : goal.returns-then-byte-ne92
unfolding short_at
returns-then-byte-ne92 c = sym (pick_false _ _ (ne_eqb _ _ (λ q. c.if-byte-ne92.true (c.byte.ensures ∙ q))))

pub overflow_add-at : goal.overflow_add-at
overflow_add-at c = omega (arith, found_in _ _ c.byte.ensures c.if-byte-ne92.false tt)

pub returns : goal.returns
unfolding short_at
returns c = c.escape_of_at.ensures ∙ sym (pick_true _ _ (eq-eqb _ _ (sym c.byte.ensures ∙ c.if-byte-ne92.false)))
