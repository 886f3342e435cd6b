-- `answered::write_machines` meets its contract. The loop's invariant: the first j machines stand at the front of the memory, and the rest is as it was, zeros. Assumes nothing.
use Rattle.answered.specs.laws.Copies.{Copied}
use mathlib.Core.List.{map}
use Rattle.answered.specs.Answered.{as_byte}
use Rattle.answered.proofs.write_machines.Given as goal

abbrev pub invariant-loop-j : goal.invariant-loop-j
invariant-loop-j l = Copied (map as_byte l.each) l.initial.machines l.machines l.j
