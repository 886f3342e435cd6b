-- `values::more` meets its contract: one byte more is compared.
-- Assumes nothing.
use Rattle.values.proofs.more.Goals as goal

pub returns-then-ok : goal.returns-then-ok
returns-then-ok c = simp (c.if-ok.true, c.byte.ensures)
