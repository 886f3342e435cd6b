-- `listed::cited_entry` meets its contract: the invariant is that the entries from number j on decide which entry has the path. A path with another print is another text. Assumes nothing.
use mathlib.Core.Path.{◌≡◌}
use Prim.Native.Nat.{◌-◌, ◌≤◌}
use Rattle.index.specs.Cited.{entry_cited}
use Rattle.index.specs.Index.{text_at}
use Rattle.index.proofs.laws.Paths.{entry_from}
use Rattle.listed.proofs.cited_entry.Given as goal

abbrev pub invariant-loop-j : goal.invariant-loop-j
invariant-loop-j l = (l.j ≤ l.n) × (entry_cited l.s l.ix l.file ≡ entry_from l.s l.ix (text_at l.s l.file) l.j)

abbrev pub decreases-loop-j : goal.decreases-loop-j
decreases-loop-j l = l.n - l.j
