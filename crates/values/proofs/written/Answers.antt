-- `values::written` meets its contract: by the first character the number is negative or not, and a number past 64 bits is past the range.
-- Assumes nothing.
use mathlib.Core.Path.{sym, ◌∙◌}
use native.Mathlib.Omega.{arith}
use Rattle.text.specs.laws.Peek.{found_in}
use Rattle.values.proofs.Digits.{written_broken, written_minus, written_plain}
use Rattle.values.proofs.written.Goals as goal

pub broken-requires : goal.broken-requires
broken-requires c = c.requires

pub returns-then-broken : goal.returns-then-broken
returns-then-broken c = written_broken _ _ _ (sym c.if-broken.true ∙ c.broken.ensures)

pub overflow_add-at : goal.overflow_add-at
overflow_add-at c = omega (arith, found_in _ _ c.byte.ensures c.if-byte-eq45.true tt)

pub natural-requires : goal.natural-requires
natural-requires c = c.requires

pub returns-then-byte-eq45 : goal.returns-then-byte-eq45
returns-then-byte-eq45 c = written_minus _ _ _ c.requires (sym c.if-broken.false ∙ c.broken.ensures) c.byte.ensures c.if-byte-eq45.true c.natural.ensures c.within.ensures

pub natural-requires-2 : goal.natural-requires-2
natural-requires-2 c = c.requires

pub returns : goal.returns
returns c = written_plain _ _ _ c.requires (sym c.if-broken.false ∙ c.broken.ensures) c.byte.ensures c.if-byte-eq45.false c.natural-2.ensures c.within-2.ensures
