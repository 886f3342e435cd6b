-- `whole::pick` meets its contract. The invariant: the search from `i` on, with `best` as the place so far, ends where the search of
-- the whole list ends. Assumes nothing.
use Rattle.std.proofs.Common.{◌≡◌, ◌<◌, drop}
use Rattle.whole.specs.Pairs.{place_from, place_for, nth}
use Rattle.whole.proofs.pick.Given as goal

abbrev pub invariant-loop-i : goal.invariant-loop-i
invariant-loop-i l = (l.best < l.i) × (place_from l.t l.best (nth l.xs l.best) l.i (drop l.i l.xs) ≡ place_for l.t l.xs)
