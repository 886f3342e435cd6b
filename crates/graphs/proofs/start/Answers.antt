-- `graphs::start` meets its contract: all cells are cleared, and then those of the correspondences set and no others (`marks_marked`).
use lib.ListN.{length, replicate}
use mathlib.Core.Path.{ap, ◌∙◌}
use Rattle.graphs.specs.Graphs.{linked, marked}
use Rattle.graphs.specs.Links.{links_of}
use Rattle.graphs.specs.laws.Marked.{marked_other, marks_marked}
use Rattle.graphs.proofs.start.Goals as goal

pub returns-then-matrix-ne-CELLS : goal.returns-then-matrix-ne-CELLS
returns-then-matrix-ne-CELLS c = let l = linked (links_of c.args.a.now c.args.x.now c.args.b.now c.args.y.now) in (c.fill.ensures.after (λ y e. e)) ∙ marked_other l (replicate (length c.args.matrix.now) 0) (λ q. c.if-matrix-ne-CELLS.true (ap length (c.fill.ensures.after (λ y e. e)) ∙ q))

pub returns : goal.returns
returns c = let l = linked (links_of c.args.a.now c.args.x.now c.args.b.now c.args.y.now) in marks_marked l _ c.if-matrix-ne-CELLS.false c.join_links.ensures ∙ ap (marked l) (c.fill.ensures.after (λ y e. e))
