-- `listed::same_block` meets its contract: the loop keeps that m of the q bytes passed were counted as the same, and that all are where m is q. So they are where 16 of 16 were counted.
-- Assumes nothing.
use Prim.Native.Nat.{◌≤◌, ◌-◌}
use Rattle.listed.specs.laws.Parts.{Counted}
use Rattle.listed.proofs.same_block.Given as goal

abbrev pub invariant-loop-q : goal.invariant-loop-q
invariant-loop-q l = (l.q ≤ 16) × Counted l.texts l.i l.j l.m l.q

abbrev pub decreases-loop-q : goal.decreases-loop-q
decreases-loop-q l = 16 - l.q
