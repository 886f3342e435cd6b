-- `finds::is_id` meets its contract: 64 bits hold every id, and the bits of an integer are those of an id only if it is that id.
-- Assumes nothing.
use native.Mathlib.Omega.{arith}
use borrow.Author.Rules.{rules}
use Rattle.finds.specs.laws.Ids.{id_none, id_in, id_below, id_above, id_no_integer}
use Rattle.finds.proofs.is_id.Goals as goal

pub returns-then-p-eq0 : goal.returns-then-p-eq0
returns-then-p-eq0 c = id_none _ _ _ c.if-p-eq0.true

pub returns-in-In : goal.returns-in-In
returns-in-In c = id_in _ _ _ c.if-p-eq0.false (omega arith) c.integer_at.ensures c.in-In.is (search rules)

pub returns-in-Below : goal.returns-in-Below
returns-in-Below c = id_below _ _ _ c.if-p-eq0.false (omega arith) c.integer_at.ensures c.in-Below.is

pub returns-in-Above : goal.returns-in-Above
returns-in-Above c = id_above _ _ _ c.if-p-eq0.false (omega arith) c.integer_at.ensures c.in-Above.is

pub returns-in-None : goal.returns-in-None
returns-in-None c = id_no_integer _ _ _ c.if-p-eq0.false (omega arith) c.integer_at.ensures c.in-None.is
