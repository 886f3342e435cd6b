-- `sizes::refusal` meets its contract: the rules are asked in order, and the first that applies gives its number. 10 and 13 apply where it is told so.
-- Assumes nothing.
use Rattle.sizes.proofs.Order.{is_10, is_11, is_12, is_13, is_none}
use Rattle.sizes.proofs.refusal.Goals as goal

pub returns-then-broken : goal.returns-then-broken
returns-then-broken c = is_10 c.args.s.now c.args.ix.now c.args.broken c.args.empty c.if-broken.true

pub returns-then-refusal_11_unknown_clock_name : goal.returns-then-refusal_11_unknown_clock_name
returns-then-refusal_11_unknown_clock_name c = is_11 c.args.s.now c.args.ix.now c.args.broken c.args.empty c.if-broken.false c.refusal_11_unknown_clock_name.ensures c.if-refusal_11_unknown_clock_name.true

pub returns-then-refusal_12_machine_with_machines : goal.returns-then-refusal_12_machine_with_machines
returns-then-refusal_12_machine_with_machines c = is_12 c.args.s.now c.args.ix.now c.args.broken c.args.empty c.if-broken.false c.refusal_11_unknown_clock_name.ensures c.if-refusal_11_unknown_clock_name.false c.refusal_12_machine_with_machines.ensures c.if-refusal_12_machine_with_machines.true

pub returns-then-empty : goal.returns-then-empty
returns-then-empty c = is_13 c.args.s.now c.args.ix.now c.args.broken c.args.empty c.if-broken.false c.refusal_11_unknown_clock_name.ensures c.if-refusal_11_unknown_clock_name.false c.refusal_12_machine_with_machines.ensures c.if-refusal_12_machine_with_machines.false c.if-empty.true

pub returns-else-empty : goal.returns-else-empty
returns-else-empty c = is_none c.args.s.now c.args.ix.now c.args.broken c.args.empty c.if-broken.false c.refusal_11_unknown_clock_name.ensures c.if-refusal_11_unknown_clock_name.false c.refusal_12_machine_with_machines.ensures c.if-refusal_12_machine_with_machines.false c.if-empty.false
