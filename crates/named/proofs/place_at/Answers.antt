-- `named::place_at` meets its contract: a place below n is returned only where the position is p. The loop keeps nothing in mind. Assumes nothing.
use native.Mathlib.Omega.{arith}
use Rattle.named.proofs.place_at.Goals as goal

pub returns-then-names-k : goal.returns-then-names-k
returns-then-names-k c = λ h. c.if-names-k.true

pub returns : goal.returns
returns c = λ h. absurd (omega arith)
