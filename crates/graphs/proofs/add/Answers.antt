-- `graphs::add` meets its contract: the cells of the guesses are set and no others (`marks_marked`), or the memory has another size.
use mathlib.Core.List.{[]}
use Rattle.graphs.specs.Graphs.{world_of, guess}
use Rattle.graphs.specs.laws.Marked.{marked_other, marks_marked}
use Rattle.graphs.proofs.add.Goals as goal

pub returns-then-matrix-ne-CELLS : goal.returns-then-matrix-ne-CELLS
returns-then-matrix-ne-CELLS c = marked_other (guess c.args.g (world_of [] [] [] [] c.args.machines c.args.files c.args.pinned c.args.trace.0)) c.args.matrix.now c.if-matrix-ne-CELLS.true

pub returns : goal.returns
returns c = marks_marked (guess c.args.g (world_of [] [] [] [] c.args.machines c.args.files c.args.pinned c.args.trace.0)) c.args.matrix.now c.if-matrix-ne-CELLS.false c.join_guesses.ensures
