-- `same_path` compares a path with other bytes. The invariant says that what is left of both from byte i on is equal exactly if all is. Assumes nothing.
use lib.ListN.{length, drop}
use Rattle.records.specs.Layout.{bytes_at}
use Rattle.records.specs.Readers.{path_at}
use Rattle.sheet.specs.Twice.{same_bytes}
use Prim.Native.Nat.{◌+◌, ◌-◌, ◌*◌}
use mathlib.Core.Path.{◌≡◌}
use Rattle.sheet.proofs.same_path.Given as goal

abbrev pub invariant-loop-i : goal.invariant-loop-i
invariant-loop-i l = same_bytes (bytes_at l.s (l.at + 15 + 8 * l.i) (length l.t - l.i)) (drop l.i l.t) ≡ same_bytes (path_at l.s l.at) l.t
