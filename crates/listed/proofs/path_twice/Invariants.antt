-- `listed::path_twice` meets its contract: the invariant is that the entries from number i on decide. Assumes nothing.
use mathlib.Core.Path.{◌≡◌}
use Prim.Native.Nat.{◌-◌}
use Rattle.manifest.specs.Rules.{applies}
use Rattle.index.specs.Index.{manifest_of}
use Rattle.index.proofs.laws.Entries.{from_entry}
use Rattle.listed.specs.laws.Rules.{paths_15}
use Rattle.listed.proofs.path_twice.Given as goal

abbrev pub invariant-loop-i : goal.invariant-loop-i
invariant-loop-i l = applies paths_15 (manifest_of l.s l.ix) ≡ from_entry paths_15 l.s l.ix l.i

abbrev pub decreases-loop-i : goal.decreases-loop-i
decreases-loop-i l = l.n - l.i
