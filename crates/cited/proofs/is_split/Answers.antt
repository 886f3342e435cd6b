-- `cited::is_split` meets its contract: column 3 tells.
-- Assumes nothing.
use mathlib.Core.Path.{ap}
use mathlib.Core.Bool.{not}
use Prim.Native.Nat.{ℕ}
use lib.Dec.{eqb}
use Rattle.cited.specs.laws.Rule20.{split_at}
use Rattle.cited.proofs.is_split.Goals as goal

pub returns : goal.returns
unfolding split_at
returns c = ap (λ (n : ℕ). not (eqb n 0)) c.col.ensures
