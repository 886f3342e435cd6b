-- `values::same_rest` meets its contract. The loop keeps that what was left at first is the same exactly where what is left now is. Texts that begin with characters are the same where the characters are and what follows is, since UTF-8 tells each character from its bytes; bytes that `row` passes at both positions do not matter.
-- Assumes nothing.
use mathlib.Core.Path.{◌≡◌}
use Prim.Native.Nat.{◌-◌}
use lib.ListN.{length}
use Rattle.values.specs.Strings.{both_text, rest}
use Rattle.values.proofs.same_rest.Given as goal

abbrev pub invariant-loop-p : goal.invariant-loop-p
invariant-loop-p l = both_text (rest l.s l.i) (rest l.s l.k) ≡ both_text (rest l.s l.p) (rest l.s l.q)

abbrev pub decreases-loop-p : goal.decreases-loop-p
decreases-loop-p l = length l.s - l.i
