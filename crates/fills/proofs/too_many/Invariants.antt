-- `fills::too_many` meets its contract: the invariant is that the entries from number i on decide; the counts are read off the index.
-- Assumes nothing.
use mathlib.Core.Path.{◌≡◌}
use Prim.Native.Nat.{ℕ, ◌-◌, ◌≤◌}
use lib.ListN.{drop}
use Rattle.text.specs.Reading.{Text}
use Rattle.manifest.specs.Rows.{any}
use Rattle.index.specs.Index.{index_of, many_items, too_many}
use Rattle.index.proofs.laws.Back.{files_of}
use Rattle.fills.proofs.too_many.Given as goal

abbrev pub invariant-loop-i : goal.invariant-loop-i
invariant-loop-i l = (l.i ≤ l.n) × ((s : Text) (v : ℕ) → l.ix ≡ index_of s v → too_many s v ≡ any (many_items s) (drop l.i (files_of s v)))

abbrev pub decreases-loop-i : goal.decreases-loop-i
decreases-loop-i l = l.n - l.i
