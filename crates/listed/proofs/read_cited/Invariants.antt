-- `listed::read_cited` meets its contract: the invariant is that the first i numbers are in the table, that the paths stay read, and that what was found so far and the entries from number
-- i on decide whether a size is broken. Assumes nothing.
use mathlib.Core.Bool.{◌||◌}
use mathlib.Core.Path.{◌≡◌}
use Prim.Native.Nat.{◌-◌, ◌≤◌}
use Rattle.manifest.specs.Rules.{applies}
use Rattle.index.specs.Index.{manifest_of}
use Rattle.index.proofs.laws.Entries.{from_entry}
use Rattle.prints.specs.laws.Tables.{Tabled}
use Rattle.index.specs.Cited.{cited_by}
use Rattle.listed.specs.laws.Rules.{cited_10}
use Rattle.listed.specs.laws.Parts.{Read}
use Rattle.listed.proofs.read_cited.Given as goal

abbrev pub invariant-loop-i : goal.invariant-loop-i
invariant-loop-i l = (l.i ≤ 32) × Tabled (cited_by l.s l.ix) l.cites l.i × Read l.s l.ix l.prints l.lengths l.texts 32 × (applies cited_10 (manifest_of l.s l.ix) ≡ (l.broken || from_entry cited_10 l.s l.ix l.i))

abbrev pub decreases-loop-i : goal.decreases-loop-i
decreases-loop-i l = 32 - l.i
