-- `written::told_at` meets its contract: past a list's end stands the default.
-- Assumes nothing.
use mathlib.Core.Path.{sym}
use lib.ListN.{get_or-eq_default}
use Rattle.written.proofs.told_at.Goals as goal

pub returns-else-k-list : goal.returns-else-k-list
returns-else-k-list g c = sym (get_or-eq_default c.args.list.now c.args.nothing c.if-k-list.false)
