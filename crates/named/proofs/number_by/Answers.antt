-- `named::number_by` meets its contract: the invariant is that the name, looked for from place k on, gives the number. A name with another print is another text. The slice of the table tells its length. Assumes nothing.
use mathlib.Core.Path.{sym, ◌∙◌}
use native.Mathlib.Omega.{arith}
use Rattle.named.specs.laws.Firsts.{number_start, number_here, number_on, number_past, named_other, named_same}
use Rattle.named.proofs.number_by.Goals as goal
use Rattle.named.proofs.number_by.Goals.{then-held-k+else-is_called, else-held-k}

pub loop-k-init : goal.loop-k-init
loop-k-init c = (omega arith, omega arith, number_start _ _ _)

pub bounds-held-k : goal.bounds-held-k
bounds-held-k c = omega (arith, c.loop-k.invariant.1)

pub bounds-held-k-then-held-k : goal.bounds-held-k-then-held-k
bounds-held-k-then-held-k c = omega (arith, c.loop-k.invariant.1)

pub is_called-requires : goal.is_called-requires
is_called-requires c = c.print_at-print.ensures

pub returns-then-is_called : goal.returns-then-is_called
returns-then-is_called c = number_here _ c.args.table.now _ _ c.loop-k.invariant.2 c.loop-k-test.true (named_same _ c.args.table.now _ _ c.print_at-print.ensures (c.if-held-k.true ∙ c.wide-wanted.ensures) c.is_called.ensures ∙ c.if-is_called.true)

pub loop-k-preserved : goal.loop-k-preserved
loop-k-preserved c =
    let on = number_on _ c.args.table.now _ _ c.loop-k.invariant.2 c.loop-k-test.true in
    let wanted = c.wide-wanted.ensures in (
      omega arith,
      c.loop-k.invariant.1,
      elim c.if-held-k.branch [
        | then-held-k+else-is_called w ↦ on (named_same _ c.args.table.now _ _ c.print_at-print.ensures (w.if-held-k.true ∙ wanted) w.is_called.ensures ∙ w.if-is_called.false)
        | else-held-k w ↦ on (named_other _ c.args.table.now _ _ c.print_at-print.ensures (λ e. w.if-held-k.false (e ∙ sym wanted)))
      ],
    )

pub returns : goal.returns
returns c = number_past _ c.args.table.now _ _ c.loop-k.invariant.2 c.loop-k-test.false
