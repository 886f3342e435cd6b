-- `members::noted` meets its contract: past the table nothing was seen and nothing is marked.
-- Assumes nothing.
use mathlib.Core.Path.{sym, ap}
use Prim.Native.Nat.{ℕ, ◌≤◌}
use native.Mathlib.Omega.{arith}
use lib.ListN.{length, get_or-eq_default}
use lib.Seq.{set_out}
use lib.Dec.{eqb}
use Rattle.members.proofs.noted.Goals as goal

pub returns : goal.returns
returns c = let h : length c.args.seen.now ≤ c.args.line = omega (arith, c.if-line-lt20.false, c.requires) in (sym (ap (λ (n : ℕ). eqb n 1) (get_or-eq_default c.args.seen.now 0 h)), sym (set_out c.args.seen.now c.args.line 1 h))
