-- `cited::is_undeclared` meets its contract: no machine is named at 0; elsewhere a name that stands in the entry at the same place is declared, and of any other the entry is asked.
-- Assumes nothing.
use mathlib.Core.Path.{sym}
use Rattle.cited.specs.laws.Rule21.{no_name_given, name_given}
use Rattle.cited.proofs.is_undeclared.Goals as goal

pub returns-then-p-eq0 : goal.returns-then-p-eq0
returns-then-p-eq0 c = no_name_given c.args.s.now c.args.ix.now c.args.e c.args.p c.if-p-eq0.true

pub returns-then-stands_in : goal.returns-then-stands_in
returns-then-stands_in c = name_given c.args.s.now c.args.ix.now c.args.e c.args.p c.if-p-eq0.false (sym (c.stands_in.ensures c.args.s.now c.if-stands_in.true))

pub returns : goal.returns
returns c = name_given c.args.s.now c.args.ix.now c.args.e c.args.p c.if-p-eq0.false c.declares-declared.ensures
