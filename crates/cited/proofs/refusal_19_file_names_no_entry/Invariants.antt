-- `cited::refusal_19_file_names_no_entry` meets its contract: what stands outside the entries is asked first; then the invariant is that the entries from number i on decide.
-- Assumes nothing.
use mathlib.Core.Path.{◌≡◌}
use Prim.Native.Nat.{◌-◌, ◌≤◌}
use Rattle.manifest.specs.Rules.{applies, refusal_19_file_names_no_entry}
use Rattle.index.specs.Index.{manifest_of}
use Rattle.index.proofs.laws.Entries.{from_entry}
use Rattle.cited.proofs.refusal_19_file_names_no_entry.Given as goal

abbrev pub invariant-loop-i : goal.invariant-loop-i
invariant-loop-i l = (l.i ≤ l.n) × (applies refusal_19_file_names_no_entry (manifest_of l.s l.ix) ≡ from_entry refusal_19_file_names_no_entry l.s l.ix l.i)

abbrev pub decreases-loop-i : goal.decreases-loop-i
decreases-loop-i l = l.n - l.i
