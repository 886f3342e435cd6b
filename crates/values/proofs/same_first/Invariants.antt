-- `values::same_first` meets its contract. The loop keeps that what was left at first is the same exactly where what is left now is: a byte that is a character by itself, in both strings, is one step of `same_rest`'s kind, and blocks of them are many.
-- Assumes nothing.
use mathlib.Core.Path.{◌≡◌}
use Prim.Native.Nat.{◌≤◌}
use lib.ListN.{length}
use Rattle.values.specs.Strings.{both_text, rest}
use Rattle.values.proofs.same_first.Given as goal

abbrev pub invariant-loop-left : goal.invariant-loop-left
invariant-loop-left l = (l.i ≤ length l.s) × (l.k ≤ length l.s) × (both_text (rest l.s l.i) (rest l.s l.k) ≡ both_text (rest l.s l.p) (rest l.s l.q))

abbrev pub decreases-loop-left : goal.decreases-loop-left
decreases-loop-left l = l.left
