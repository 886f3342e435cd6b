-- `whole::convert_back` meets its contract: the correspondences swapped are those of the lists swapped. Assumes nothing.
use Rattle.std.proofs.Common.{sym, ◌∙◌, to_z-of_z}
use Rattle.whole.proofs.laws.Lists.{converted_back_pairs}
use Rattle.whole.proofs.convert_back.Goals as goal

pub returns : goal.returns
returns c = (rw (to_z-of_z c.ranges.u) at c.convert.ensures) ∙ sym (converted_back_pairs _ c.args.xs.now c.args.ys.now)
