-- `index::entries` meets its contract: none without `files`; else the count is the sixth number, cut at 32.
-- Assumes nothing.
use mathlib.Core.Path.{sym, ◌∙◌}
use borrow.Author.Tests.{eq-eqb, ne_eqb}
use Rattle.text.specs.laws.Readers.{pick_true, pick_false}
use Rattle.index.specs.Index.{entries_in}
use Rattle.index.proofs.entries.Goals as goal

pub returns-then-ix-eq0 : goal.returns-then-ix-eq0
unfolding entries_in
returns-then-ix-eq0 c = sym (pick_true _ _ (eq-eqb _ _ c.if-ix-eq0.true))

pub returns : goal.returns
unfolding entries_in
returns c = c.held.ensures ∙ sym (pick_false _ _ (ne_eqb _ _ c.if-ix-eq0.false))
