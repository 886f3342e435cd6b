-- `batch::write_lines` is safe and ends: `written::lines` writes no more bytes than the memory has, and an array of n zeros has the
-- length n, by the law, so that nothing counts its elements.
use Rattle.std.proofs.Common.{ℕ, sym, length-take-le}
use Rattle.std.proofs.lemmas.List.{length-replicate}
use Rattle.batch.proofs.write_lines.Goals as goal

pub slice_bounds-lines-end : goal.slice_bounds-lines-end
slice_bounds-lines-end g c = sym (length-replicate {A = ℕ} 671136 0)

pub slice_bounds-out-end : goal.slice_bounds-out-end
slice_bounds-out-end g c = c.lines-n.ensures.upper_bound

pub slice_bounds-write_all-end : goal.slice_bounds-write_all-end
slice_bounds-write_all-end g c = sym (length-take-le _ _ c.lines-n.ensures.upper_bound)
