-- `answered::write_machines` meets its contract. The loop's invariant: the first j machines stand at the front of the memory, and the rest is as it was, zeros. Assumes nothing.
use Rattle.answered.specs.laws.Copies.{copied_none, copied_more, copied_all}
use Rattle.answered.specs.laws.Fronts.{over_zeros, bytes_at}
use native.Mathlib.Omega.{arith}
use lib.ListN.{length}
use mathlib.Core.List.{map}
use Rattle.answered.specs.Answered.{as_byte}
use Rattle.merged.proofs.laws.Lists.{length_map}
use Rattle.answered.proofs.write_machines.Goals as goal

pub loop-j-init : goal.loop-j-init
loop-j-init c = copied_none _ _

pub bounds-machines-j : goal.bounds-machines-j
bounds-machines-j c = omega (arith, c.loop-j.invariant.whole, c.requires)

pub loop-j-preserved : goal.loop-j-preserved
loop-j-preserved c = copied_more c.loop-j.invariant (omega (arith, length_map as_byte c.args.each.now)) (omega (arith, c.requires)) (bytes_at c.args.each.now c.loop-j.j c.byte.ensures)

pub returns : goal.returns
returns c = over_zeros 0 (length c.args.machines.now) (map as_byte c.args.each.now) (c.fill.ensures.after (λ y h. h)) (copied_all c.loop-j.invariant (omega (arith, length_map as_byte c.args.each.now)))
