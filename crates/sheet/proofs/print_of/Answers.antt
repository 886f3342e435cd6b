-- `print_of` is the print of the path. The invariant says that the print so far, with the fields that are left, is that of the path. Assumes nothing.
use Rattle.sheet.proofs.Printing.{print_start, print_more, print_end}
use Prim.Native.Nat.{◌+◌, ◌/◌, ◌%◌}
use native.Mathlib.Omega.{arith}
use mathlib.Core.Path.{◌∙◌}
use Rattle.sheet.proofs.print_of.Goals as goal

pub loop-k-init : goal.loop-k-init
loop-k-init c = print_start c.args.s.now c.head_at.ensures c.requires c.from-n.ensures

pub loop-k-preserved : goal.loop-k-preserved
loop-k-preserved c = print_more c.args.s.now (c.args.a + 15) (c.from-n.result / 8) (c.from-n.result % 8) c.loop-k.k c.loop-k.print c.take-x.ensures (omega arith) (omega arith) c.with_field-print.ensures ∙ c.loop-k.invariant

pub returns : goal.returns
returns c = print_end c.args.s.now (c.args.a + 15) (c.from-n.result / 8) (c.from-n.result % 8) c.loop-k.k c.loop-k.print c.take-rest.ensures (omega arith) (omega arith) (omega arith) c.with_field.ensures ∙ c.loop-k.invariant
