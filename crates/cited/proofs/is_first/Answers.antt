-- `cited::is_first` meets its contract: the place at which the position was found is told. The slice of the table tells its length.
-- Assumes nothing.
use mathlib.Core.Path.{sym}
use mathlib.Core.Bool.{true≢false}
use native.Mathlib.Omega.{arith}
use Rattle.cited.proofs.is_first.Goals as goal

pub loop-k-init : goal.loop-k-init
loop-k-init c = (omega arith, omega arith)

pub bounds-held-k : goal.bounds-held-k
bounds-held-k c = omega arith

pub returns-then-held-k : goal.returns-then-held-k
returns-then-held-k c = λ _. record { place = c.loop-k.k; there = c.if-held-k.true }

pub loop-k-preserved : goal.loop-k-preserved
loop-k-preserved c = (omega arith, c.loop-k.invariant.1)

pub returns : goal.returns
returns c = λ h. absurd (true≢false (sym h))
