-- `survey::read` meets its contract: what starts with no bracket and no brace is a scalar. Assumes nothing.
use native.Mathlib.Omega.{arith}
use Rattle.survey.proofs.Stepping.{scalar_read}
use Rattle.survey.proofs.read.Goals as goal

pub returns-in_default : goal.returns-in_default
returns-in_default c = scalar_read _ _ _ c.byte.ensures (omega arith) c.scalar.ensures
