-- `listed::settle_items` meets its contract: the invariant is that the cells of the items from number k on lead to the end, from a state that reads as the one at the beginning, and that what
-- was found so far and those items decide whether a name is too long, and whether one is empty. Assumes nothing.
use mathlib.Core.Bool.{Bool, ◌||◌}
use mathlib.Core.Path.{refl, ap, ◌∙◌}
use native.Mathlib.Omega.{arith}
use Rattle.manifest.specs.Rules.{outside_of, is_empty}
use Rattle.listed.specs.Settled.{item_cell}
use Rattle.index.proofs.laws.Paths.{few_items}
use Rattle.listed.specs.laws.Sized.{long_size, empty_size, is_long, items_start, items_done, item_told}
use Rattle.listed.specs.laws.Onward.{items_first, items_next, items_last}
use Rattle.listed.proofs.settle_items.Goals as goal

pub loop-k-init : goal.loop-k-init
loop-k-init c = (c.requires.2, items_first c.args.i c.args.items c.requires.2, items_start (outside_of 0 64) c.args.s.now c.args.ix.now c.args.i, items_start is_empty c.args.s.now c.args.ix.now c.args.i)

pub overflow_mul-i : goal.overflow_mul-i
overflow_mul-i c = omega (arith, few_items c.args.ix.now c.args.i, c.requires.1)

pub overflow_mul-k : goal.overflow_mul-k
overflow_mul-k c = omega (arith, few_items c.args.ix.now c.args.i, c.requires.1)

pub overflow_add-k : goal.overflow_add-k
overflow_add-k c = omega (arith, few_items c.args.ix.now c.args.i, c.requires.1)

pub overflow_add-k-in-loop-k : goal.overflow_add-k-in-loop-k
overflow_add-k-in-loop-k c = omega (arith, few_items c.args.ix.now c.args.i, c.requires.1)

pub overflow_add-i : goal.overflow_add-i
overflow_add-i c = omega (arith, few_items c.args.ix.now c.args.i, c.requires.1)

pub overflow_add-i-in-loop-k : goal.overflow_add-i-in-loop-k
overflow_add-i-in-loop-k c = omega (arith, few_items c.args.ix.now c.args.i, c.requires.1)

pub settle-name-requires : goal.settle-name-requires
settle-name-requires c = (omega (arith, few_items c.args.ix.now c.args.i, c.requires.1), c.loop-k.invariant.0)

pub overflow_add-k-in-loop-k-2 : goal.overflow_add-k-in-loop-k-2
overflow_add-k-in-loop-k-2 c = omega (arith, few_items c.args.ix.now c.args.i, c.requires.1)

pub loop-k-smaller : goal.loop-k-smaller
loop-k-smaller c = omega (arith, few_items c.args.ix.now c.args.i, c.requires.1)

pub loop-k-preserved : goal.loop-k-preserved
unfolding item_cell
loop-k-preserved c = (c.settle-name.ensures.0, items_next c.args.i c.args.items c.loop-k.k c.loop-k.invariant.1 c.loop-k-test.true (omega (arith, few_items c.args.ix.now c.args.i, c.requires.1)) c.settle-name.ensures.1, item_told c.loop-k.invariant.1.alike c.requires.0 long_size refl c.loop-k.broken c.requires.1 c.loop-k.invariant.2 c.loop-k-test.true (omega (arith, few_items c.args.ix.now c.args.i, c.requires.1)) c.settle-name.ensures.2 (c.either-broken.ensures ∙ ap (λ (b : Bool). c.loop-k.broken || b) (is_long c.settle-name.result.length)), item_told c.loop-k.invariant.1.alike c.requires.0 empty_size refl c.loop-k.empty c.requires.1 c.loop-k.invariant.3 c.loop-k-test.true (omega (arith, few_items c.args.ix.now c.args.i, c.requires.1)) c.settle-name.ensures.2 c.either-empty.ensures)

pub returns : goal.returns
returns c = (c.loop-k.invariant.0, items_last c.args.i c.args.items c.loop-k.k c.loop-k.invariant.1 c.loop-k-test.false, items_done (outside_of 0 64) c.args.s.now c.args.ix.now c.args.i c.loop-k.broken c.requires.1 c.loop-k.invariant.2 c.loop-k-test.false, items_done is_empty c.args.s.now c.args.ix.now c.args.i c.loop-k.empty c.requires.1 c.loop-k.invariant.3 c.loop-k-test.false)
