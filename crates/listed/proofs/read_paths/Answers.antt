-- `listed::read_paths` meets its contract: the invariant is that the first i paths are read, and that what was found so far and the entries from number i on decide whether a size is
-- broken. Assumes nothing.
use mathlib.Core.Path.{refl}
use native.Mathlib.Omega.{arith}
use borrow.Author.Rules.{rules}
use Rattle.index.proofs.laws.Paths.{few_entries}
use Rattle.listed.specs.laws.Rules.{own_10}
use Rattle.listed.specs.laws.Slots.{read_none, read_more, read_all}
use Rattle.listed.specs.laws.Sizes.{path_told}
use Rattle.listed.specs.laws.Judged.{all_start, all_on, all_done}
use Rattle.listed.proofs.read_paths.Goals as goal

pub loop-i-init : goal.loop-i-init
unfolding own_10
loop-i-init c = (omega arith, read_none (search rules) (search rules) c.requires, all_start own_10 c.args.s.now c.args.ix.now refl)

pub measured-m-requires : goal.measured-m-requires
measured-m-requires c = (omega arith, c.loop-i.invariant.1.room)

pub loop-i-preserved : goal.loop-i-preserved
loop-i-preserved c = (omega arith, read_more c.loop-i-test.true c.loop-i.invariant.1 c.col-at.ensures c.measured-m.ensures, all_on own_10 c.args.s.now c.args.ix.now c.loop-i.broken c.entries-n.ensures c.loop-i.invariant.2 (path_told c.args.s.now c.args.ix.now _ c.col-at.ensures c.measured-m.ensures.long c.size_broken.ensures) c.broken_so_far-broken.ensures)

pub returns : goal.returns
returns c = (read_all c.loop-i-test.false c.loop-i.invariant.1, all_done own_10 c.args.s.now c.args.ix.now c.loop-i.broken c.entries-n.ensures c.loop-i.invariant.2 (omega (arith, few_entries c.args.ix.now, c.entries-n.ensures, c.loop-i-test.false)))
