-- `checks::refusal_37_too_many_machines` meets its contract: the count of machines is what `machines` promises.
-- Assumes nothing.
use mathlib.Core.Path.{ap}
use lib.Dec.{ltb}
use Rattle.merged.specs.Refusals.{refusal_37_too_many_machines}
use Rattle.checks.proofs.refusal_37_too_many_machines.Goals as goal

pub returns : goal.returns
unfolding refusal_37_too_many_machines
returns c = ap (ltb 32) c.machines.ensures.0
