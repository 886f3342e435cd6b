-- `cited::same_name` meets its contract: nothing stands at 0; elsewhere the texts are compared.
-- Assumes nothing.
use mathlib.Core.Path.{sym, ◌∙◌}
use Rattle.grammar.specs.Tree.{same}
use Rattle.index.specs.Index.{text_at}
use Rattle.cited.specs.laws.Cells.{holds_none, holds_some}
use Rattle.cited.proofs.same_name.Goals as goal

pub returns-then-q-eq0 : goal.returns-then-q-eq0
returns-then-q-eq0 c = sym (holds_none (same (text_at c.args.s.now c.args.p)) c.args.q (text_at c.args.s.now c.args.q) c.if-q-eq0.true)

pub returns : goal.returns
returns c = c.same_at.ensures ∙ sym (holds_some (same (text_at c.args.s.now c.args.p)) c.args.q (text_at c.args.s.now c.args.q) c.if-q-eq0.false)
