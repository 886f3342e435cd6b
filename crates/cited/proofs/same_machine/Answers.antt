-- `cited::same_machine` meets its contract: the host is the machine without a position, a name is the same as itself, two positions of different names tell two, and others are compared as texts.
-- Assumes nothing.
use Rattle.cited.specs.laws.Clocks.{machine_host, machine_called, machine_names, machine_itself, machine_apart}
use Rattle.cited.proofs.same_machine.Goals as goal

pub returns-then-p-eq0 : goal.returns-then-p-eq0
returns-then-p-eq0 c = machine_host c.args.s.now c.args.p c.args.q c.if-p-eq0.true

pub returns-then-q-eq0 : goal.returns-then-q-eq0
returns-then-q-eq0 c = machine_called c.args.s.now c.args.p c.args.q c.if-p-eq0.false c.if-q-eq0.true

pub returns-then-p-q : goal.returns-then-p-q
returns-then-p-q c = machine_itself c.args.s.now c.args.p c.args.q c.if-p-eq0.false c.if-q-eq0.false c.if-p-q.true

pub returns-then-is_first-2 : goal.returns-then-is_first-2
returns-then-is_first-2 c = machine_apart c.args.s.now c.args.p c.args.q c.if-p-eq0.false c.if-q-eq0.false c.if-p-q.false c.requires (c.is_first.ensures c.if-is_first.true) (c.is_first-then-is_first.ensures c.if-is_first-2.true)

pub returns : goal.returns
returns c = machine_names c.args.s.now c.args.p c.args.q c.if-p-eq0.false c.if-q-eq0.false c.same_at.ensures
