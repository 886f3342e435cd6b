-- `print_paths` holds the prints of the first k paths: that is the invariant, and `Printed` says it. Assumes nothing.
use Rattle.sheet.proofs.Printing.{place_is, place_low, printed_none, printed_more, printed_all}
use native.Mathlib.Omega.{arith}
use mathlib.Core.Path.{refl}
use Rattle.sheet.proofs.print_paths.Goals as goal

pub loop-path-init : goal.loop-path-init
loop-path-init c = printed_none c.args.s.now refl

pub print_of-requires : goal.print_of-requires
print_of-requires c = place_low c.args.s.now (place_is c.args.s.now c.requires.1 c.requires.0 (omega arith)) (omega arith)

pub loop-path-preserved : goal.loop-path-preserved
loop-path-preserved c = printed_more c.args.s.now (omega arith) c.loop-path.invariant (place_is c.args.s.now c.requires.1 c.requires.0 (omega arith)) c.print_of.ensures

pub returns : goal.returns
returns c = printed_all c.args.s.now (omega arith) c.loop-path.invariant
