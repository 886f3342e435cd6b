-- `lines::private_of` meets its contract: past file 31 there is no clock; else the crate numbers says it. Assumes nothing.
use mathlib.Core.Path.{sym, ap}
use Rattle.lines.specs.laws.Tables.{file_past}
use Rattle.lines.proofs.private_of.Goals as goal

pub returns-then-f-gt31 : goal.returns-then-f-gt31
returns-then-f-gt31 c = sym (file_past c.args.f c.if-f-gt31.true)

pub returns : goal.returns
returns c = ap (λ k. k.0) c.private_clock-clock.ensures
