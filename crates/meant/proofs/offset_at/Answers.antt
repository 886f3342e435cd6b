-- `meant::offset_at` meets its contract: a law for each kind of integer that stands there; one in 64 bits is read back as it was written. Assumes nothing.
use borrow.Author.Rules.{rules}
use Rattle.meant.specs.Meant.{offset_in}
use Rattle.meant.proofs.Steps.{offset_none, offset_in_lem, offset_out}
use Rattle.meant.proofs.offset_at.Goals as goal

pub returns-then-p-eq0 : goal.returns-then-p-eq0
returns-then-p-eq0 c = λ ix names. offset_none c.args.s.now ix names _ c.if-p-eq0.true

pub returns-in-In : goal.returns-in-In
returns-in-In c = λ ix names. offset_in_lem c.args.s.now ix names _ c.if-p-eq0.false c.integer_at.ensures c.in-In.is (search rules)

pub returns-in-Below : goal.returns-in-Below
unfolding offset_in
returns-in-Below c = λ ix names. offset_out c.args.s.now ix names _ c.if-p-eq0.false c.integer_at.ensures c.in-Below.is

pub returns-in-Above : goal.returns-in-Above
unfolding offset_in
returns-in-Above c = λ ix names. offset_out c.args.s.now ix names _ c.if-p-eq0.false c.integer_at.ensures c.in-Above.is

pub returns-in-None : goal.returns-in-None
unfolding offset_in
returns-in-None c = λ ix names. offset_out c.args.s.now ix names _ c.if-p-eq0.false c.integer_at.ensures c.in-None.is
