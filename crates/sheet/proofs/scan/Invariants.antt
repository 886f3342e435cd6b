-- `scan` ends where the walk over the records ends. The invariant `Left` says that what is left to walk is the whole walk; the measure is the bits that are left. Assumes nothing.
use Rattle.sheet.specs.laws.Reads.{Left}
use lib.ListN.{length}
use Prim.Native.Nat.{◌-◌, ◌*◌}
use Rattle.sheet.proofs.scan.Given as goal

abbrev pub invariant-loop-next : goal.invariant-loop-next
invariant-loop-next l = Left l.s l.st

abbrev pub decreases-loop-next : goal.decreases-loop-next
decreases-loop-next l = 8 * length l.s - l.st.at
