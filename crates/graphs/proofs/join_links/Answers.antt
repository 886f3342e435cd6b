-- `graphs::join_links` meets its contract: the pairs of the links passed are joined (`Linked`).
use native.Mathlib.Omega.{arith}
use Rattle.graphs.specs.laws.Links.{links_most}
use Rattle.graphs.specs.laws.Matrix.{link_start, link_more, link_done}
use Rattle.graphs.proofs.join_links.Goals as goal

pub loop-k-init : goal.loop-k-init
loop-k-init c = link_start _ _ _ _ _ c.requires

pub offset_bounds-a-k : goal.offset_bounds-a-k
offset_bounds-a-k c = let l = c.args in let m = links_most l.a.now l.x.now l.b.now l.y.now in omega (arith, c.count-k-end.ensures, m.0)

pub bounds-a-k : goal.bounds-a-k
bounds-a-k c = let l = c.args in let m = links_most l.a.now l.x.now l.b.now l.y.now in omega (arith, c.count-k-end.ensures, m.0)

pub offset_bounds-b-k : goal.offset_bounds-b-k
offset_bounds-b-k c = let l = c.args in let m = links_most l.a.now l.x.now l.b.now l.y.now in omega (arith, c.count-k-end.ensures, m.2)

pub bounds-b-k : goal.bounds-b-k
bounds-b-k c = let l = c.args in let m = links_most l.a.now l.x.now l.b.now l.y.now in omega (arith, c.count-k-end.ensures, m.2)

pub join-requires : goal.join-requires
join-requires c = c.loop-k.invariant.room

pub loop-k-preserved : goal.loop-k-preserved
loop-k-preserved c = link_more _ _ _ _ _ c.loop-k.invariant (omega (arith, c.count-k-end.ensures)) c.join.ensures

pub returns : goal.returns
returns c = link_done _ _ _ _ _ c.loop-k.invariant (omega (arith, c.count-k-end.ensures))
