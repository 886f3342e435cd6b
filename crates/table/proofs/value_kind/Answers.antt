-- `table::value_kind` meets its contract: where a line is about the member its kind, else that of any value.
-- Assumes nothing.
use mathlib.Core.Path.{sym, ◌∙◌}
use Prim.Native.Nat.{◌≤◌}
use native.Mathlib.Omega.{arith}
use borrow.Author.Tests.{lt-ltb, le-ltb}
use Rattle.table.specs.Table.{value_kind}
use Rattle.text.specs.laws.Readers.{pick_true, pick_false}
use Rattle.table.proofs.value_kind.Goals as goal

pub returns-then-line-lt20 : goal.returns-then-line-lt20
unfolding value_kind
returns-then-line-lt20 c = c.kind.ensures ∙ sym (pick_true _ _ (lt-ltb _ 20 c.if-line-lt20.true))

pub returns-else-line-lt20 : goal.returns-else-line-lt20
unfolding value_kind
returns-else-line-lt20 c = let h : 20 ≤ c.args.line = omega (arith, c.if-line-lt20.false) in sym (pick_false _ _ (le-ltb c.args.line 20 h))
