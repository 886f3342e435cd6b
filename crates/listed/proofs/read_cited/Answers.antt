-- `listed::read_cited` meets its contract: the invariant is that the first i numbers are in the table, that the paths stay read, and that what was found so far and the entries from number
-- i on decide whether a size is broken. Assumes nothing.
use mathlib.Core.Path.{refl}
use native.Mathlib.Omega.{arith}
use borrow.Author.Rules.{rules}
use Rattle.prints.specs.laws.Tables.{tabled_none, tabled_more, tabled_all}
use Rattle.index.specs.Cited.{cited_by, cites_of}
use Rattle.index.proofs.laws.Paths.{few_entries}
use Rattle.listed.specs.laws.Rules.{cited_10}
use Rattle.listed.specs.laws.Slots.{measured_held, read_still}
use Rattle.listed.specs.laws.Sizes.{file_told}
use Rattle.listed.specs.laws.Judged.{all_start, all_on, all_done}
use Rattle.listed.specs.laws.Cited.{cited_by_is}
use Rattle.listed.proofs.read_cited.Goals as goal

pub loop-i-init : goal.loop-i-init
unfolding cited_10
loop-i-init c = (omega arith, tabled_none (cited_by c.args.s.now c.args.ix.now) (search rules), c.requires, all_start cited_10 c.args.s.now c.args.ix.now refl)

pub measured-m-requires : goal.measured-m-requires
measured-m-requires c = (omega arith, c.loop-i.invariant.2.room)

pub cited_entry-requires : goal.cited_entry-requires
cited_entry-requires c = (read_still c.loop-i.invariant.2 c.measured-m.ensures.kept, measured_held (omega arith) c.measured-m.ensures, c.measured-m.ensures.printed)

pub loop-i-preserved : goal.loop-i-preserved
loop-i-preserved c = (omega arith, tabled_more (cited_by c.args.s.now c.args.ix.now) c.loop-i-test.true c.loop-i.invariant.1 (cited_by_is c.args.s.now c.args.ix.now _ c.col-file.ensures c.cited_entry.ensures), read_still c.loop-i.invariant.2 c.measured-m.ensures.kept, all_on cited_10 c.args.s.now c.args.ix.now c.loop-i.broken c.entries-n.ensures c.loop-i.invariant.3 (file_told c.args.s.now c.args.ix.now _ c.col-file.ensures c.measured-m.ensures.long c.col.ensures c.col-in-loop-i.ensures c.inside-sync.ensures c.inside.ensures c.size_broken-here.ensures) c.broken_so_far-broken.ensures)

pub returns : goal.returns
unfolding cites_of
returns c = (tabled_all (cited_by c.args.s.now c.args.ix.now) c.loop-i-test.false c.loop-i.invariant.1, all_done cited_10 c.args.s.now c.args.ix.now c.loop-i.broken c.entries-n.ensures c.loop-i.invariant.3 (omega (arith, few_entries c.args.ix.now, c.entries-n.ensures, c.loop-i-test.false)), c.loop-i.invariant.2)
