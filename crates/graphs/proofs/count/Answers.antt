-- `graphs::count` meets its contract: the smallest of the four lengths is at most the number of correspondences, and at least.
use native.Mathlib.Nat.{le_antisymm}
use native.Mathlib.Omega.{arith}
use Rattle.graphs.specs.laws.Links.{links_most, links_least}
use Rattle.graphs.proofs.count.Goals as goal

pub returns : goal.returns
returns c = let l = c.args in
    let m = links_most l.a.now l.x.now l.b.now l.y.now in
    le_antisymm (links_least _ _ _ _ _ (omega arith) (omega arith) (omega arith) (omega arith)) (omega (arith, m.0, m.1, m.2, m.3))
