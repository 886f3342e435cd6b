-- `cited::same_shared` meets its contract: two named clocks are one if their machines are, and then if their domains are the same.
-- Assumes nothing.
use mathlib.Core.Path.{refl}
use Rattle.cited.specs.laws.Clocks.{other_machine, same_machines}
use Rattle.cited.proofs.same_shared.Goals as goal

pub returns-then-not-same_machine : goal.returns-then-not-same_machine
returns-then-not-same_machine c = other_machine c.args.s.now c.args.ix.now c.args.i c.args.e c.col.ensures c.machine_or_base-own_machine.ensures c.col-2.ensures c.machine_or_base-other_machine.ensures c.same_machine.ensures c.if-not-same_machine.true

pub returns : goal.returns
returns c = same_machines c.args.s.now c.args.ix.now c.args.i c.args.e c.col.ensures c.machine_or_base-own_machine.ensures c.col-2.ensures c.machine_or_base-other_machine.ensures c.same_machine.ensures c.if-not-same_machine.false c.col-3.ensures c.domain-own.ensures c.col-4.ensures c.domain-other.ensures refl
