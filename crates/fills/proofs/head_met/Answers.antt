-- `fills::head_met` meets its contract: in each branch the stores make of the row and the entries of before those of after.
-- Assumes nothing.
use mathlib.Core.Path.{◌∙◌, sym}
use Rattle.fills.proofs.Rows.{files_first, first_inv, head_other, trace_first}
use Rattle.fills.proofs.head_met.Goals as goal

pub files_met-requires : goal.files_met-requires
files_met-requires c = (c.requires.0, c.requires.1, c.requires.2, c.requires.3 (first_inv _ _ _ _ (sym c.is_first.ensures ∙ c.if-is_first.true)).0)

pub returns-then-is_first : goal.returns-then-is_first
returns-then-is_first c = (c.files_met.ensures.0, files_first _ _ _ c.requires.0 (sym c.is_first.ensures ∙ c.if-is_first.true) c.files_met.ensures.1 c.files_met.ensures.2)

pub trace_met-requires : goal.trace_met-requires
trace_met-requires c = (c.requires.0, c.requires.1)

pub returns-then-is_first-2 : goal.returns-then-is_first-2
returns-then-is_first-2 c = (c.trace_met.ensures.0, trace_first _ _ _ (sym c.is_first-2.ensures ∙ c.if-is_first-2.true) c.trace_met.ensures.1)

pub returns : goal.returns
returns c = (c.past.ensures, head_other _ _ _ (sym c.is_first.ensures ∙ c.if-is_first.false) (sym c.is_first-2.ensures ∙ c.if-is_first-2.false))
