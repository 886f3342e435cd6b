-- `listed::names` meets its contract: the invariant is that the cells of the entries from number i on lead to the end, from a state that reads as the one where the loop begins, and that
-- what was found so far and those entries decide 10 of names, and 13. Assumes nothing.
use mathlib.Core.Bool.{◌||◌}
use mathlib.Core.Path.{◌≡◌}
use Prim.Native.Nat.{◌-◌}
use Rattle.manifest.specs.Rules.{applies, refusal_13_empty_machine_name}
use Rattle.index.specs.Index.{manifest_of}
use Rattle.index.proofs.laws.Entries.{from_entry}
use Rattle.listed.specs.Settled.{cells_settled}
use Rattle.listed.specs.laws.Rules.{names_10}
use Rattle.listed.specs.laws.Parts.{Table, so_far}
use Rattle.listed.specs.laws.Onward.{Onward, entries_left}
use Rattle.listed.proofs.names.Given as goal

abbrev pub invariant-loop-i : goal.invariant-loop-i
invariant-loop-i l = Table l.s l.firsts l.prints l.lengths l.texts l.held × Onward l.s l.initial.ix (cells_settled l.s (entries_left l.initial.ix l.n 0) (so_far l.initial.firsts l.initial.held l.initial.ix)) (entries_left l.initial.ix l.n l.i) (so_far l.firsts l.held l.ix) × (applies names_10 (manifest_of l.s l.initial.ix) ≡ (l.broken || from_entry names_10 l.s l.initial.ix l.i)) × (applies refusal_13_empty_machine_name (manifest_of l.s l.initial.ix) ≡ (l.empty || from_entry refusal_13_empty_machine_name l.s l.initial.ix l.i))

abbrev pub decreases-loop-i : goal.decreases-loop-i
decreases-loop-i l = l.n - l.i
