-- `paths::others` meets its contract. Of the clocks passed, those other than the target from which a pair leads are listed (`Rest`); the others are the target, at no pair, and clocks without a path (`bare_far`). They are fewer than the clocks, since the target is none of them. Assumes nothing.
use Prim.Native.Nat.{◌≤◌, ◌<◌}
use lib.ListN.{length}
use mathlib.Core.Path.{◌≡◌}
use Rattle.numbers.specs.Numbers.{clocks}
use Rattle.paths.specs.laws.Search.{Rest}
use Rattle.paths.specs.Matrix.{held}
use Rattle.paths.proofs.others.Given as goal

abbrev pub invariant-loop-c : goal.invariant-loop-c
invariant-loop-c l = (length l.out ≡ clocks) × (l.count ≤ l.c) × (l.target < l.c → l.count < l.c) × Rest (held l.matrix l.n l.target) 1 l.out l.count l.c
