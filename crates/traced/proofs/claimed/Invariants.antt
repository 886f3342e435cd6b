-- `traced::claimed` meets its contract. The loop's invariant: the first that claims is the first from number f on. Assumes nothing.
use mathlib.Core.Path.{◌≡◌}
use Prim.Native.Nat.{◌≤◌}
use Rattle.traced.specs.laws.Files.{claim_from}
use Rattle.traced.proofs.claimed.Given as goal

abbrev pub invariant-loop-f : goal.invariant-loop-f
invariant-loop-f l = (l.n ≤ 32) × (claim_from l.t 0 ≡ claim_from l.t l.f)
