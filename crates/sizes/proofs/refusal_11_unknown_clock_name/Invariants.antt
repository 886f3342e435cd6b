-- `sizes::refusal_11_unknown_clock_name` meets its contract: `trace_time` is asked first. The loop's invariant: the entries from number i on decide.
-- Assumes nothing.
use mathlib.Core.Path.{◌≡◌}
use Prim.Native.Nat.{◌-◌}
use Rattle.manifest.specs.Rules.{applies, refusal_11_unknown_clock_name}
use Rattle.index.proofs.laws.Entries.{from_entry}
use Rattle.index.specs.Index.{manifest_of}
use Rattle.sizes.proofs.refusal_11_unknown_clock_name.Given as goal

abbrev pub invariant-loop-i : goal.invariant-loop-i
invariant-loop-i l = applies refusal_11_unknown_clock_name (manifest_of l.s l.ix) ≡ from_entry refusal_11_unknown_clock_name l.s l.ix l.i

abbrev pub decreases-loop-i : goal.decreases-loop-i
decreases-loop-i l = l.n - l.i
