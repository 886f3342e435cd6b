-- `paths::follow` meets its contract. The invariant is `Walked`: what is written, and the steps left from where the walk stands, are the steps from c.
use Rattle.paths.proofs.Walk.{Walked}
use Rattle.numbers.specs.Numbers.{clocks}
use Rattle.paths.proofs.follow.Given as goal

abbrev pub invariant-loop-s : goal.invariant-loop-s
invariant-loop-s l = Walked l.next l.initial.out clocks l.c l.k l.out l.at l.s
