-- `values::begun_rest` meets its contract. The loop keeps that what is left of the string ends in the text, where it was the same up to `end`, as the string did from the start; `end` lies past the text once a character that `past_code` compares differs. A character, however it is told, is one step of that kind, and characters of several bytes that are the same in both are passed in a row.
-- Assumes nothing.
use mathlib.Core.Path.{◌≡◌}
use Prim.Native.Nat.{◌+◌, ◌≤◌, ◌-◌}
use lib.ListN.{length}
use Rattle.values.specs.Strings.{rest}
use Rattle.values.specs.laws.Compared.{ends_from}
use Rattle.values.proofs.begun_rest.Given as goal

abbrev pub invariant-loop-end : goal.invariant-loop-end
invariant-loop-end l = (l.end ≤ length l.t + 1) × (ends_from (rest l.s l.i) l.t l.end ≡ ends_from (rest l.s l.from) l.t l.start)

abbrev pub decreases-loop-end : goal.decreases-loop-end
decreases-loop-end l = length l.s - l.i
