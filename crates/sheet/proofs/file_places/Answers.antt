-- `file_places` holds the place of each file before i, and 0 from there on: `Placed` is the invariant. Assumes nothing.
use Rattle.sheet.proofs.Placed.{placed_none, placed_in, placed_all}
use native.Mathlib.Omega.{arith}
use mathlib.Core.Path.{refl}
use Rattle.sheet.proofs.file_places.Goals as goal

pub loop-i-init : goal.loop-i-init
loop-i-init c = placed_none c.args.s.now c.args.n

pub overflow_cast-places : goal.overflow_cast-places
overflow_cast-places c = omega (arith, c.loop-i.invariant.near)

pub past_file-p-requires : goal.past_file-p-requires
past_file-p-requires c = omega (arith, c.loop-i.invariant.near)

pub loop-i-preserved : goal.loop-i-preserved
loop-i-preserved c = placed_in c.loop-i.invariant (omega arith) c.past_file-p.ensures.0 c.past_file-p.ensures.1 (omega arith) refl

pub returns : goal.returns
returns c = placed_all {most = c.min-most.result} c.loop-i.invariant (omega arith) (λ h. omega arith)
