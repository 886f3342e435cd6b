-- `traced::pinned` meets its contract. The loop's invariant: the number has the bits of the files from number k on; of at most 31 files it fits twice. Assumes nothing.
use mathlib.Core.Path.{◌≡◌, sym, ap, ◌∙◌}
use native.Mathlib.Omega.{arith}
use Rattle.checks.specs.Table.{file_number}
use Rattle.traced.specs.laws.Files.{files_few, pinned_from, pinned_is, pinned_past, pinned_small, pinned_set, pinned_clear}
use Rattle.traced.proofs.pinned.Goals as goal

pub loop-k-init : goal.loop-k-init
loop-k-init c = (omega (arith, c.files-k.ensures), (omega (arith, c.files-k.ensures, files_few c.args.t.now), sym (pinned_past c.args.t.now _ (omega (arith, c.files-k.ensures)))))

pub overflow_mul-bits : goal.overflow_mul-bits
overflow_mul-bits c = omega (arith, pinned_small c.args.t.now c.loop-k.k c.loop-k-test.true, c.loop-k.invariant.1.1)

pub overflow_add-bits : goal.overflow_add-bits
overflow_add-bits c = omega (arith, pinned_small c.args.t.now c.loop-k.k c.loop-k-test.true, c.loop-k.invariant.1.1)

pub loop-k-preserved-then-t-k-eq-PINNED : goal.loop-k-preserved-then-t-k-eq-PINNED
unfolding file_number
loop-k-preserved-then-t-k-eq-PINNED c = (omega arith, (omega arith, pinned_set c.args.t.now c.loop-k.k c.loop-k-test.true c.loop-k.invariant.0 c.loop-k.invariant.1.1 c.if-t-k-eq-PINNED.true))

pub loop-k-preserved : goal.loop-k-preserved
unfolding file_number
loop-k-preserved c = (omega arith, (omega arith, pinned_clear c.args.t.now c.loop-k.k c.loop-k-test.true c.loop-k.invariant.0 c.loop-k.invariant.1.1 c.if-t-k-eq-PINNED.false))

pub returns : goal.returns
returns c = c.loop-k.invariant.1.1 ∙ (ap (pinned_from c.args.t.now) (let z : c.loop-k.k ≡ 0 = omega arith in z) ∙ pinned_is c.args.t.now)
