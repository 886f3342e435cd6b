-- `cited::is_machine` meets its contract: its name counts only where `machine` stands.
-- Assumes nothing.
use Rattle.index.specs.Index.{text_at}
use Rattle.cited.specs.laws.Declared.{no_machine, some_machine}
use Rattle.cited.proofs.is_machine.Goals as goal

pub returns-then-col-eq0 : goal.returns-then-col-eq0
returns-then-col-eq0 c = no_machine c.args.s.now c.args.ix.now c.args.e (text_at c.args.s.now c.args.p) c.col.ensures c.if-col-eq0.true

pub returns : goal.returns
returns c = some_machine c.args.s.now c.args.ix.now c.args.e (text_at c.args.s.now c.args.p) c.col.ensures c.if-col-eq0.false c.col-name.ensures c.same_name.ensures
