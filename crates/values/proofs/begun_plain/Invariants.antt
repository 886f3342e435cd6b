-- `values::begun_plain` meets its contract. The loop's invariant: the bytes so far are the first `n` of the text, and what is left of the string ends in the text, where it was the same up to `n`, as all of it does. A byte that is another decides, as it begins the character that stands there; where none does, the invariant is what is promised.
-- Assumes nothing.
use mathlib.Core.Path.{◌≡◌}
use Prim.Native.Nat.{◌+◌, ◌-◌, ◌^◌, ◌≤◌, ◌<◌}
use lib.ListN.{length}
use Rattle.values.specs.Strings.{rest, ends_in}
use Rattle.values.specs.laws.Compared.{ends_from}
use Rattle.values.proofs.begun_plain.Given as goal

abbrev pub invariant-loop-from : goal.invariant-loop-from
invariant-loop-from l = (l.n ≤ length l.t) × (l.i ≡ l.from + l.n) × (l.i < 2 ^ 64) × (ends_from (rest l.s l.i) l.t l.n ≡ ends_in (rest l.s l.from) l.t)

abbrev pub decreases-loop-from : goal.decreases-loop-from
decreases-loop-from l = length l.s - l.i
