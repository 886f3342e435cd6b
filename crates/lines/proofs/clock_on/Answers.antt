-- `lines::clock_on` meets its contract: the crate numbers says it. Assumes nothing.
use mathlib.Core.Path.{ap}
use Rattle.lines.proofs.clock_on.Goals as goal

pub returns : goal.returns
returns c = ap (λ k. k.0) c.domain_clock-clock.ensures
