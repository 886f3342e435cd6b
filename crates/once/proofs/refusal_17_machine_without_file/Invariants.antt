-- `once::refusal_17_machine_without_file` meets its contract: `trace_time` is looked at, then the entries; the invariant is that those from number i on decide.
-- Assumes nothing.
use mathlib.Core.Path.{◌≡◌}
use Prim.Native.Nat.{◌-◌}
use Rattle.manifest.specs.Rules.{applies, refusal_17_machine_without_file}
use Rattle.index.specs.Index.{manifest_of}
use Rattle.index.proofs.laws.Entries.{from_entry}
use Rattle.once.proofs.refusal_17_machine_without_file.Given as goal

abbrev pub invariant-loop-i : goal.invariant-loop-i
invariant-loop-i l = applies refusal_17_machine_without_file (manifest_of l.s l.ix) ≡ from_entry refusal_17_machine_without_file l.s l.ix l.i

abbrev pub decreases-loop-i : goal.decreases-loop-i
decreases-loop-i l = l.n - l.i
