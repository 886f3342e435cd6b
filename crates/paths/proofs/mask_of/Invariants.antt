-- `paths::mask_of` meets its contract: the clocks at the places passed are marked (`proofs/Mask.antt`). Assumes nothing.
use lib.ListN.{length}
use mathlib.Core.Path.{◌≡◌}
use Rattle.numbers.specs.Numbers.{clocks}
use Rattle.paths.specs.laws.Search.{Marked}
use Rattle.paths.proofs.mask_of.Given as goal

abbrev pub invariant-loop-clock : goal.invariant-loop-clock
invariant-loop-clock l = (length l.mask ≡ clocks) × Marked l.mask l.level 0 l.clock-index
