-- `listing`: the invariant is that the entries from number i on decide which has the path. Only one that has its print is asked for its text. Assumes nothing.
use mathlib.Core.Path.{sym, ◌∙◌}
use native.Mathlib.Omega.{arith}
use Rattle.index.proofs.laws.Paths.{few_entries}
use Rattle.gather.specs.laws.Listings.{listed_start, listed_past, listed_other, listed_on, listed_here}
use Rattle.gather.proofs.listing.Goals.{then-lookups-i+else-is_path, else-lookups-i}
use Rattle.gather.proofs.listing.Goals as goal

pub loop-i-init : goal.loop-i-init
loop-i-init c = (omega arith, listed_start c.args.s.now c.args.ix.now c.args.lookups.now c.args.path.now)

pub overflow_add-i : goal.overflow_add-i
overflow_add-i c = omega (arith, few_entries c.args.ix.now, c.count-n.ensures)

pub offset_bounds-lookups-i : goal.offset_bounds-lookups-i
offset_bounds-lookups-i c = omega (arith, few_entries c.args.ix.now, c.count-n.ensures)

pub bounds-lookups-i : goal.bounds-lookups-i
bounds-lookups-i c = omega (arith, few_entries c.args.ix.now, c.count-n.ensures)

pub returns-then-is_path : goal.returns-then-is_path
returns-then-is_path c = sym (c.loop-i.invariant.1 ∙ listed_here c.args.s.now c.args.ix.now c.args.lookups.now c.args.path.now c.count-n.ensures _ (c.wide-print.ensures.0 ∙ c.print_of.ensures) c.loop-i-test.true c.if-lookups-i.true c.col.ensures c.is_path.ensures c.if-is_path.true)

pub loop-i-preserved : goal.loop-i-preserved
loop-i-preserved c = (
  omega arith,
  c.loop-i.invariant.1 ∙ elim c.if-lookups-i.branch [
    | then-lookups-i+else-is_path w ↦
        listed_on c.args.s.now c.args.ix.now c.args.lookups.now c.args.path.now c.count-n.ensures _ (c.wide-print.ensures.0 ∙ c.print_of.ensures)
        c.loop-i-test.true w.if-lookups-i.true w.col.ensures w.is_path.ensures w.if-is_path.false
    | else-lookups-i w ↦
        listed_other c.args.s.now c.args.ix.now c.args.lookups.now c.args.path.now c.count-n.ensures _ (c.wide-print.ensures.0 ∙ c.print_of.ensures)
        c.loop-i-test.true w.if-lookups-i.false
  ],
)

pub returns : goal.returns
returns c = sym (c.loop-i.invariant.1 ∙ listed_past c.args.s.now c.args.ix.now c.args.lookups.now c.args.path.now c.count-n.ensures _ c.loop-i-test.false)
