-- `cited::refusal_21_in` meets its contract: first the own `clocks`, then its `sync_to`.
-- Assumes nothing.
use mathlib.Core.Path.{refl}
use Rattle.cited.specs.laws.Files.{named_by_table}
use Rattle.cited.specs.laws.Rule21.{strange_by_entry, no_clocks_21, clocks_21, no_sync_21, sync_21_said}
use Rattle.cited.proofs.refusal_21_in.Goals as goal

pub returns-then-col-eq0 : goal.returns-then-col-eq0
returns-then-col-eq0 c = no_clocks_21 c.args.s.now c.args.ix.now c.args.i c.col.ensures c.if-col-eq0.true

pub returns-then-is_undeclared : goal.returns-then-is_undeclared
returns-then-is_undeclared c = clocks_21 c.args.s.now c.args.ix.now c.args.i c.col.ensures c.if-col-eq0.false c.col-own.ensures c.is_undeclared.ensures c.if-is_undeclared.true

pub returns-then-col-eq0-2 : goal.returns-then-col-eq0-2
returns-then-col-eq0-2 c = no_sync_21 c.args.s.now c.args.ix.now c.args.i c.col.ensures c.if-col-eq0.false c.col-own.ensures c.is_undeclared.ensures c.if-is_undeclared.false c.col-2.ensures c.if-col-eq0-2.true

pub returns : goal.returns
returns c = sync_21_said c.args.s.now c.args.ix.now c.args.i c.col.ensures c.if-col-eq0.false c.col-own.ensures c.is_undeclared.ensures c.if-is_undeclared.false c.col-2.ensures c.if-col-eq0-2.false refl c.col-machine.ensures (strange_by_entry c.args.s.now c.args.ix.now _ _ _ (named_by_table c.args.s.now c.args.ix.now c.args.i c.requires.0 c.requires.1) c.is_strange.ensures)
