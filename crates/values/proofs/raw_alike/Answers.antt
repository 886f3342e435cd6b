-- `values::raw_alike` meets its contract: the bytes of the first text up to where the two differ are a text of their own, in which `past_raw` passes whole characters; these are told by their bytes, which stand at both positions.
-- Assumes nothing.
use Rattle.values.specs.laws.Raws.{raw_from, raws_none, raws_some}
use mathlib.Core.Path.{refl, sym}
use lib.Seq.{length-take-le}
use Rattle.values.proofs.raw_alike.Goals as goal

pub returns-then-b-lt128 : goal.returns-then-b-lt128
returns-then-b-lt128 c = raws_none _ _ _ _

pub returns-then-s-i : goal.returns-then-s-i
returns-then-s-i c = raws_none _ _ _ _

pub returns-then-t-k : goal.returns-then-t-k
returns-then-t-k c = raws_none _ _ _ _

pub slice_bounds-past_raw-end : goal.slice_bounds-past_raw-end
slice_bounds-past_raw-end c = sym (length-take-le _ _ c.same_bytes-n.ensures.left)

pub overflow_sub-result : goal.overflow_sub-result
overflow_sub-result c = raw_from _ _ c.past_raw.ensures

pub returns : goal.returns
returns c = raws_some _ _ _ _ _ c.same_bytes-n.ensures c.past_raw.ensures refl
