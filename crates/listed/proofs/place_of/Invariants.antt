-- `listed::place_of` meets its contract: the invariant is that the text at p stands at none of the first k places. A name with another print is another text. Assumes nothing.
use Prim.Native.Nat.{◌-◌, ◌≤◌}
use Rattle.listed.specs.laws.Names.{Passed}
use Rattle.listed.proofs.place_of.Given as goal

abbrev pub invariant-loop-k : goal.invariant-loop-k
invariant-loop-k l = (l.k ≤ l.n) × Passed l.s l.firsts l.p l.k

abbrev pub decreases-loop-k : goal.decreases-loop-k
decreases-loop-k l = l.n - l.k
