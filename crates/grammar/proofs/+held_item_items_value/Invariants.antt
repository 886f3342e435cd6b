-- `grammar::value`, `grammar::items`, `grammar::item` and `grammar::held`, which call each other, end since the levels fall: four times the levels,
-- and 3, 2, 1 and 0 for `items`, `item`, `held` and `value`. The loop of `items` keeps that what is left to read is what was to be read at first (`Left`). Assumes nothing.
use Rattle.std.proofs.Common.{◌+◌, ◌-◌, ◌*◌, length}
use Rattle.grammar.proofs.Coded.{Left}
use Rattle.grammar.proofs.+held_item_items_value.Given as goal

abbrev pub decreases-held : goal.decreases-held
decreases-held l = 4 * l.levels + 1

abbrev pub decreases-item : goal.decreases-item
decreases-item l = 4 * l.levels + 2

abbrev pub decreases-items : goal.decreases-items
decreases-items l = 4 * l.levels + 3

abbrev pub decreases-value : goal.decreases-value
decreases-value l = 4 * l.levels

abbrev pub invariant-items-loop-j : goal.invariant-items-loop-j
invariant-items-loop-j l = Left l.object l.levels l.s l.at l.i

abbrev pub decreases-items-loop-j : goal.decreases-items-loop-j
decreases-items-loop-j l = length l.s - l.i
