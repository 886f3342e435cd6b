-- `paths_match` compares two paths: with different prints they differ, since equal paths have equal prints; of different lengths they differ; else by their
-- bytes. Assumes nothing.
use mathlib.Core.Path.{◌∙◌}
use borrow.Author.Tests.{ne_eqb}
use Rattle.sheet.proofs.Again.{paths_differ, paths_equal}
use Rattle.sheet.specs.laws.Prints.{prints_differ}
use native.Mathlib.Omega.{arith}
use Rattle.sheet.proofs.paths_match.Goals as goal

pub returns-then-x-y : goal.returns-then-x-y
returns-then-x-y c = prints_differ c.args.s.now c.args.a c.args.b c.requires.2 c.requires.3 c.if-x-y.true

pub returns-then-g-h : goal.returns-then-g-h
returns-then-g-h c = paths_equal c.args.s.now c.head_at-g.ensures c.head_at-h.ensures (omega arith) (omega arith) c.if-g-h.true c.from.ensures c.same_bytes.ensures

pub returns-else-g-h : goal.returns-else-g-h
returns-else-g-h c = ne_eqb _ _ c.if-g-h.false ∙ paths_differ c.args.s.now c.head_at-g.ensures c.head_at-h.ensures (omega arith) (omega arith) c.if-g-h.false
