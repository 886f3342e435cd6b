-- `cited::declares` meets its contract: after the `machine` the invariant is that the items from number k on decide.
-- Assumes nothing.
use mathlib.Core.Path.{◌≡◌}
use Prim.Native.Nat.{◌-◌, ◌≤◌}
use Rattle.grammar.specs.Tree.{same}
use Rattle.manifest.specs.Rows.{any, declared}
use Rattle.index.specs.Index.{text_at, entry_at}
use Rattle.cited.specs.laws.Declared.{items_name}
use Rattle.cited.proofs.declares.Given as goal

abbrev pub invariant-loop-k : goal.invariant-loop-k
invariant-loop-k l = (l.k ≤ l.n) × (any (same (text_at l.s l.p)) (declared (entry_at l.s l.ix l.e)) ≡ items_name l.s l.ix l.e (text_at l.s l.p) l.k)

abbrev pub decreases-loop-k : goal.decreases-loop-k
decreases-loop-k l = l.n - l.k
