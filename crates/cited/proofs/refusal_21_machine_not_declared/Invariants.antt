-- `cited::refusal_21_machine_not_declared` meets its contract: what stands outside the entries is asked first; then the invariant is that the entries from number i on decide.
-- Assumes nothing.
use mathlib.Core.Path.{◌≡◌}
use Prim.Native.Nat.{◌-◌, ◌≤◌}
use Rattle.manifest.specs.Rules.{applies, refusal_21_machine_not_declared}
use Rattle.index.specs.Index.{manifest_of}
use Rattle.index.proofs.laws.Entries.{from_entry}
use Rattle.cited.proofs.refusal_21_machine_not_declared.Given as goal

abbrev pub invariant-loop-i : goal.invariant-loop-i
invariant-loop-i l = (l.i ≤ l.n) × (applies refusal_21_machine_not_declared (manifest_of l.s l.ix) ≡ from_entry refusal_21_machine_not_declared l.s l.ix l.i)

abbrev pub decreases-loop-i : goal.decreases-loop-i
decreases-loop-i l = l.n - l.i
