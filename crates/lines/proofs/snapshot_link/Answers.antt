-- `lines::snapshot_link` meets its contract: the correspondence is made of the snapshot's fields, which are read back as they were written. Assumes nothing.
use borrow.Author.Rules.{rules}
use mathlib.Core.List.{[], ◌∷◌}
use mathlib.Core.Path.{ap}
use mir.Facts.{to_z-of_z}
use mir.Syntax.{w64}
use mir.Val.{SFits}
use Rattle.graphs.specs.Links.{Link}
use Rattle.lines.specs.laws.Tables.{snapshot_line}
use Rattle.lines.specs.laws.Written.{adds_same}
use Rattle.lines.proofs.snapshot_link.Goals as goal

pub returns : goal.returns
returns c = let f : SFits w64 c.snapshot_at-n.result.reading = search rules in let g : SFits w64 c.snapshot_at-n.result.reading2 = search rules in λ t. adds_same (ap (λ (l : Link). l ∷ []) (snapshot_line t c.args.machines.now c.snapshot_at-n.ensures c.source_clock-p.ensures c.source_clock-q.ensures)) (rw (to_z-of_z f, to_z-of_z g) at c.put.ensures)
