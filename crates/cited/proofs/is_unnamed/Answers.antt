-- `cited::is_unnamed` meets its contract: without a machine the entry of the named file tells.
-- Assumes nothing.
use mathlib.Core.Path.{refl}
use Rattle.cited.specs.laws.Files.{named_by_table}
use Rattle.cited.specs.laws.Rule20.{machine_named, machine_unnamed}
use Rattle.cited.proofs.is_unnamed.Goals as goal

pub returns-then-col-ne0 : goal.returns-then-col-ne0
returns-then-col-ne0 c = machine_named c.args.s.now c.args.ix.now c.args.i c.col.ensures c.if-col-ne0.true

pub returns : goal.returns
returns c = machine_unnamed c.args.s.now c.args.ix.now c.args.i c.col.ensures c.if-col-ne0.false refl _ (named_by_table c.args.s.now c.args.ix.now c.args.i c.requires.0 c.requires.1) c.is_split.ensures
