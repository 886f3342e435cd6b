-- `same_bytes` compares the bytes at two positions. The invariant says that what is left of both is equal exactly if all is. Assumes nothing.
use Rattle.records.specs.Layout.{bytes_at}
use Rattle.sheet.specs.Twice.{same_bytes}
use Prim.Native.Nat.{◌+◌, ◌-◌, ◌*◌}
use mathlib.Core.Path.{◌≡◌}
use Rattle.sheet.proofs.same_bytes.Given as goal

abbrev pub invariant-loop-k : goal.invariant-loop-k
invariant-loop-k l = same_bytes (bytes_at l.s (l.a + 8 * l.k) (l.n - l.k)) (bytes_at l.s (l.b + 8 * l.k) (l.n - l.k)) ≡ same_bytes (bytes_at l.s l.a l.n) (bytes_at l.s l.b l.n)
