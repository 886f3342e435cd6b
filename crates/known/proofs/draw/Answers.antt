-- `known::draw` meets its contract: the correspondences by the table of machines. Assumes nothing.
use Rattle.known.specs.laws.Drawn.{holds_same}
use Rattle.lines.specs.Lines.{links_by}
use mathlib.Core.Path.{ap}
use mathlib.Core.List.{List}
use Prim.Native.Nat.{ℕ}
use Rattle.known.proofs.draw.Goals as goal

pub returns : goal.returns
returns c = holds_same (ap (λ (m : List ℕ). links_by c.args.s.now c.args.ix.now c.args.lookups.now c.args.t.now m c.args.b.now c.args.run.at c.args.run.count) c.machines.ensures.1) (record { count = c.links.ensures.count; from = c.links.ensures.from; reads = c.links.ensures.reads; to = c.links.ensures.to; gives = c.links.ensures.gives })
