-- `once::refusal_16_clocks_without_sync_to` meets its contract: the invariant is that the entries from number i on decide.
-- Assumes nothing.
use mathlib.Core.Path.{◌≡◌}
use Prim.Native.Nat.{◌-◌}
use Rattle.manifest.specs.Rules.{applies, refusal_16_clocks_without_sync_to}
use Rattle.index.specs.Index.{manifest_of}
use Rattle.index.proofs.laws.Entries.{from_entry}
use Rattle.once.proofs.refusal_16_clocks_without_sync_to.Given as goal

abbrev pub invariant-loop-i : goal.invariant-loop-i
invariant-loop-i l = applies refusal_16_clocks_without_sync_to (manifest_of l.s l.ix) ≡ from_entry refusal_16_clocks_without_sync_to l.s l.ix l.i

abbrev pub decreases-loop-i : goal.decreases-loop-i
decreases-loop-i l = l.n - l.i
