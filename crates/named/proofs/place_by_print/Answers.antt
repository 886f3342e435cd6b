-- `named::place_by_print` meets its contract: the invariant is that the names from place k on decide. A name with another print is another text. Assumes nothing.
use mathlib.Core.Path.{sym, ◌∙◌}
use native.Mathlib.Omega.{arith}
use Rattle.named.specs.laws.Kept.{place_here, place_none}
use Rattle.prints.specs.laws.Prints.{other_print}
use Rattle.named.specs.laws.Firsts.{known_start, known_on}
use Rattle.named.proofs.place_by_print.Goals as goal
use Rattle.named.proofs.place_by_print.Goals.{then-prints-k+else-same_by_print, else-prints-k}

pub loop-k-init : goal.loop-k-init
loop-k-init c = (omega arith, known_start _ _ _ _ (omega (arith, c.requires.0, c.requires.1)))

pub offset_bounds-prints-k : goal.offset_bounds-prints-k
offset_bounds-prints-k c = omega (arith, c.requires.1)

pub bounds-prints-k : goal.bounds-prints-k
bounds-prints-k c = omega (arith, c.requires.1)

pub offset_bounds-names-k : goal.offset_bounds-names-k
offset_bounds-names-k c = omega (arith, c.requires.1)

pub bounds-names-k : goal.bounds-names-k
bounds-names-k c = omega (arith, c.requires.1)

pub same_by_print-requires : goal.same_by_print-requires
same_by_print-requires c = (c.requires.3, sym c.if-prints-k.true ∙ c.requires.2.each _ c.loop-k-test.true)

pub returns-then-same_by_print : goal.returns-then-same_by_print
returns-then-same_by_print c = place_here _ _ c.requires.0 c.requires.1 c.loop-k-test.true (sym c.same_by_print.ensures ∙ c.if-same_by_print.true)

pub overflow_add-k : goal.overflow_add-k
overflow_add-k c = omega (arith, c.requires.1)

pub loop-k-preserved : goal.loop-k-preserved
loop-k-preserved c =
    let on = known_on _ c.args.names.now _ _ (omega (arith, c.requires.0, c.requires.1)) _ c.loop-k.invariant.1 c.loop-k-test.true in (
      omega arith,
      elim c.if-prints-k.branch [
        | then-prints-k+else-same_by_print w ↦ on (sym w.same_by_print.ensures ∙ w.if-same_by_print.false)
        | else-prints-k w ↦ on (other_print _ _ _ c.requires.3 (c.requires.2.each _ c.loop-k-test.true) w.if-prints-k.false)
      ],
    )

pub returns : goal.returns
returns c = place_none _ _ c.requires.0 c.requires.1 _ c.loop-k.invariant.1 c.loop-k-test.false
