-- `lines::clock_of` meets its contract: past machine 31 there is no clock; else the crate numbers says it. Assumes nothing.
use mathlib.Core.Path.{sym, ap}
use Rattle.lines.specs.laws.Tables.{machine_past}
use Rattle.lines.proofs.clock_of.Goals as goal

pub returns-then-m-gt31 : goal.returns-then-m-gt31
returns-then-m-gt31 c = sym (machine_past c.args.d c.args.m c.if-m-gt31.true)

pub returns : goal.returns
returns c = ap (λ k. k.0) c.domain_clock-clock.ensures
