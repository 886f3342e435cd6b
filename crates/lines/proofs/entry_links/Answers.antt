-- `lines::entry_links` meets its contract. The loop's invariant: the correspondences of the entries before number i are added. Assumes nothing.
use mathlib.Core.Path.{◌≡◌, ap, ◌∙◌}
use native.Mathlib.Omega.{arith}
use Rattle.index.specs.Index.{entries_in}
use Rattle.lines.specs.laws.Tables.{entries_to, to_none, to_more, to_most, to_all, entries_few}
use Rattle.lines.specs.laws.Written.{adds_none, adds_both, adds_same}
use Rattle.lines.proofs.entry_links.Goals as goal

pub loop-i-init : goal.loop-i-init
loop-i-init c = (omega arith, adds_same (to_none c.args.s.now c.args.ix.now c.args.lookups.now c.args.t.now) (adds_none 0 c.requires))

pub entry_link-k-requires : goal.entry_link-k-requires
entry_link-k-requires c = (omega (arith, c.loop-i.invariant.1.count, to_most c.args.s.now c.args.ix.now c.args.lookups.now c.args.t.now c.loop-i.i, entries_few c.args.s.now c.args.ix.now c.args.lookups.now c.args.t.now, c.count-n.ensures), c.loop-i.invariant.1.sized)

pub loop-i-preserved : goal.loop-i-preserved
loop-i-preserved c = (omega arith, adds_same (to_more c.args.s.now c.args.ix.now c.args.lookups.now c.args.t.now c.loop-i.i) (adds_both c.loop-i.invariant.1 c.entry_link-k.ensures))

pub returns : goal.returns
returns c = let e : c.loop-i.i ≡ entries_in c.args.ix.now = omega (arith, c.count-n.ensures, c.loop-i.invariant.0) in adds_same (ap (entries_to c.args.s.now c.args.ix.now c.args.lookups.now c.args.t.now) e ∙ to_all c.args.s.now c.args.ix.now c.args.lookups.now c.args.t.now) c.loop-i.invariant.1
