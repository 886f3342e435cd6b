-- `text::long` meets its contract: its test is the first of `long_at`.
-- Assumes nothing.
use mathlib.Core.Path.{sym, ◌∙◌}
use borrow.Author.Tests.{ne_eqb}
use Rattle.text.specs.laws.Readers.{pick_false}
use Rattle.text.specs.Escapes.{long_at}
use Rattle.text.proofs.long.Goals as goal

pub returns-then-byte-ne92 : goal.returns-then-byte-ne92
unfolding long_at
returns-then-byte-ne92 c = sym (pick_false _ _ (ne_eqb _ _ (λ q. c.if-byte-ne92.true (c.byte.ensures ∙ q))))

pub long_escape-requires : goal.long_escape-requires
long_escape-requires c = sym c.byte.ensures ∙ c.if-byte-ne92.false
