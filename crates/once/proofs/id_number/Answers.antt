-- `once::id_number` meets its contract: a number that does not fit 64 bits is out of range, one that does is compared, and what is no integer is no id. Assumes nothing.
use borrow.Author.Rules.{rules}
use Rattle.once.proofs.Twice.{number_absent, number_in, number_below, number_above, number_none}
use Rattle.once.proofs.id_number.Goals as goal

pub returns-then-p-eq0 : goal.returns-then-p-eq0
returns-then-p-eq0 c = number_absent c.args.s.now c.args.p c.if-p-eq0.true

pub returns-in-In : goal.returns-in-In
returns-in-In c = number_in c.args.s.now c.args.p c.if-p-eq0.false c.integer_at.ensures c.in-In.is (search rules) c.number_of.ensures

pub returns-in-Below : goal.returns-in-Below
returns-in-Below c = number_below c.args.s.now c.args.p c.if-p-eq0.false c.integer_at.ensures c.in-Below.is

pub returns-in-Above : goal.returns-in-Above
returns-in-Above c = number_above c.args.s.now c.args.p c.if-p-eq0.false c.integer_at.ensures c.in-Above.is

pub returns-in-None : goal.returns-in-None
returns-in-None c = number_none c.args.s.now c.args.p c.if-p-eq0.false c.integer_at.ensures c.in-None.is
