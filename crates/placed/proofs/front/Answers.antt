-- `placed::front` meets its contract: a count that is cut at the length takes what the count takes (`front_is`). Assumes nothing.
use Rattle.std.proofs.Common.{sym, ◌∙◌}
use Rattle.placed.specs.laws.Fronts.{cut_length, front_is}
use Rattle.placed.proofs.front.Goals as goal

pub slice_bounds-result-end : goal.slice_bounds-result-end
slice_bounds-result-end g c = sym (cut_length c.args.n c.args.xs.now c.min.ensures ∙ sym c.min.ensures)

pub returns : goal.returns
returns g c = front_is c.args.n c.args.xs.now c.min.ensures
