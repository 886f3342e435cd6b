-- `paths::name_selves` meets its contract. The invariant is `Named`: the elements passed name themselves. Assumes nothing.
use native.Mathlib.Omega.{arith}
use Rattle.paths.proofs.Table.{named_none, named_more, named_all}
use Rattle.paths.proofs.name_selves.Goals as goal

pub loop-c-init : goal.loop-c-init
loop-c-init c = named_none _ c.requires

pub loop-c-preserved : goal.loop-c-preserved
loop-c-preserved c = named_more c.loop-c.invariant (omega arith)

pub returns : goal.returns
returns c = named_all c.loop-c.invariant (omega arith)
