-- `sizes::refusal_12_machine_with_machines` meets its contract. The loop's invariant: the entries from number i on decide; nothing else is looked at.
-- Assumes nothing.
use mathlib.Core.Path.{◌≡◌}
use Prim.Native.Nat.{◌-◌}
use Rattle.manifest.specs.Rules.{applies, refusal_12_machine_with_machines}
use Rattle.index.proofs.laws.Entries.{from_entry}
use Rattle.index.specs.Index.{manifest_of}
use Rattle.sizes.proofs.refusal_12_machine_with_machines.Given as goal

abbrev pub invariant-loop-i : goal.invariant-loop-i
invariant-loop-i l = applies refusal_12_machine_with_machines (manifest_of l.s l.ix) ≡ from_entry refusal_12_machine_with_machines l.s l.ix l.i

abbrev pub decreases-loop-i : goal.decreases-loop-i
decreases-loop-i l = l.n - l.i
