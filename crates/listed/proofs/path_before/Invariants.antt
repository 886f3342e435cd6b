-- `listed::path_before` meets its contract: the invariant is that the entries from number j on decide, of those before entry i. A path with another print is another text. Assumes nothing.
use mathlib.Core.Path.{◌≡◌}
use Prim.Native.Nat.{◌-◌}
use Rattle.manifest.specs.Rules.{has_path}
use Rattle.manifest.specs.Rows.{holds, any}
use Rattle.index.specs.Index.{text_at}
use Rattle.index.proofs.laws.Entries.{from, entry_cell}
use Rattle.listed.specs.laws.Parts.{path_before}
use Rattle.listed.proofs.path_before.Given as goal

abbrev pub invariant-loop-j : goal.invariant-loop-j
invariant-loop-j l = path_before l.s l.ix l.i ≡ any (holds (has_path (text_at l.s l.p))) (from (entry_cell l.s l.ix) l.i l.j)

abbrev pub decreases-loop-j : goal.decreases-loop-j
decreases-loop-j l = l.i - l.j
