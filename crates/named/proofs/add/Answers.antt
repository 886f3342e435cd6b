-- `named::add` meets its contract: no name changes nothing; a name that is there, where it is expected, at its own position or by its print, or one for which there is no room, leaves the first 32 as they are; a new one comes last, with its print beside it.
-- Assumes nothing.
use mathlib.Core.Path.{◌∙◌}
use native.Mathlib.Omega.{arith}
use borrow.Author.Tests.{lt-ltb, le-ltb}
use Rattle.named.specs.laws.Kept.{printed_more, place_itself}
use Rattle.named.specs.laws.Held.{added_0, added_known, added_new, added_full}
use Rattle.named.proofs.add.Goals as goal

pub returns-then-p-eq0 : goal.returns-then-p-eq0
returns-then-p-eq0 c = (added_0 _ _ c.requires.0 c.requires.1 c.if-p-eq0.true, c.requires.2)

pub returns-then-n-ge32 : goal.returns-then-n-ge32
returns-then-n-ge32 c = (added_full _ _ c.requires.0 c.requires.1 c.if-p-eq0.false c.if-n-ge32.true, c.requires.2)

pub overflow_add-result : goal.overflow_add-result
overflow_add-result c = omega (arith, (c.is_expected.ensures c.if-is_expected.true).0)

pub returns-then-is_expected : goal.returns-then-is_expected
returns-then-is_expected c = let e = c.is_expected.ensures c.if-is_expected.true in (added_known _ _ c.requires.0 c.requires.1 c.if-p-eq0.false c.if-n-ge32.false ((place_itself _ _ c.requires.0 c.requires.1 e.0 e.1).tells ∙ lt-ltb _ _ e.0), c.requires.2)

pub returns-then-j-n : goal.returns-then-j-n
returns-then-j-n c = (added_known _ _ c.requires.0 c.requires.1 c.if-p-eq0.false c.if-n-ge32.false ((place_itself _ _ c.requires.0 c.requires.1 c.if-j-n.true (c.place_at-j.ensures c.if-j-n.true)).tells ∙ lt-ltb _ _ c.if-j-n.true), c.requires.2)

pub returns-then-k-n : goal.returns-then-k-n
returns-then-k-n c = (added_known _ _ c.requires.0 c.requires.1 c.if-p-eq0.false c.if-n-ge32.false (c.place_by_print-k.ensures.tells ∙ lt-ltb _ _ c.if-k-n.true), c.requires.2)

pub returns : goal.returns
returns c = (added_new _ _ c.requires.0 c.requires.1 c.if-p-eq0.false c.if-n-ge32.false (c.place_by_print-k.ensures.tells ∙ le-ltb _ _ c.if-k-n.false), printed_more _ _ c.requires.0 c.if-n-ge32.false c.if-p-eq0.false c.requires.2 c.print_at-print.ensures)
