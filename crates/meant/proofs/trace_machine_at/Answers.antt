-- `meant::trace_machine_at` meets its contract: its own `machine`, or the base machine of the file of the cited entry, or the host: a law for each `return`. Assumes nothing.
use mathlib.Core.Path.{refl}
use Rattle.meant.proofs.Steps.{trace_own, trace_host, trace_base, trace_no_entry}
use Rattle.meant.proofs.trace_machine_at.Goals as goal

pub returns-then-machine-ne0 : goal.returns-then-machine-ne0
returns-then-machine-ne0 c = trace_own c.args.s.now c.args.ix.now c.args.lookups.now c.if-machine-ne0.true

pub returns-then-cited-eq0 : goal.returns-then-cited-eq0
returns-then-cited-eq0 c = trace_host c.args.s.now c.args.ix.now c.args.lookups.now c.if-machine-ne0.false refl c.if-cited-eq0.true

pub returns-then-cited-gt32 : goal.returns-then-cited-gt32
returns-then-cited-gt32 c = trace_no_entry c.args.s.now c.args.ix.now c.args.lookups.now c.if-machine-ne0.false refl c.if-cited-eq0.false c.if-cited-gt32.true

pub returns : goal.returns
returns c = trace_base c.args.s.now c.args.ix.now c.args.lookups.now c.if-machine-ne0.false refl c.if-cited-eq0.false c.if-cited-gt32.false c.base_at.ensures
