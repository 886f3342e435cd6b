-- `once::ids_judged` meets its contract: the invariant is that the entries from number i on decide whether an id is out of range, and that it is noted whether one before has an id twice, or those from there on decide.
-- Assumes nothing.
use mathlib.Core.Bool.{false, ◌||◌}
use mathlib.Core.Path.{◌≡◌}
use Prim.Native.Nat.{◌-◌}
use Rattle.index.proofs.laws.Entries.{from_entry}
use Rattle.index.specs.Index.{manifest_of}
use Rattle.manifest.specs.Rules.{applies, refusal_14_id_out_of_range}
use Rattle.once.specs.Once.{twice_rule}
use Rattle.once.proofs.ids_judged.Given as goal

abbrev pub invariant-loop-i : goal.invariant-loop-i
invariant-loop-i l = (applies refusal_14_id_out_of_range (manifest_of l.s l.ix) ≡ from_entry refusal_14_id_out_of_range l.s l.ix l.i) × (applies (twice_rule false) (manifest_of l.s l.ix) ≡ (l.twice || from_entry (twice_rule false) l.s l.ix l.i))

abbrev pub decreases-loop-i : goal.decreases-loop-i
decreases-loop-i l = l.n - l.i
