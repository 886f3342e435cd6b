-- `path_entry` copies the path and looks it up. The invariant: the first i bytes are those that stand in the sheet from the path on. As i goes by eights,
-- the last word ends within the 256 bytes. Assumes nothing.
use Rattle.gather.proofs.Words.{path_start, path_next}
use Rattle.gather.proofs.Steps.{entry_at_lem}
use Rattle.index.proofs.laws.Put.{put_length}
use lib.ListN.{replicate}
use Prim.Native.Nat.{◌+◌}
use mathlib.Core.Path.{refl, ◌∙◌}
use native.Mathlib.Omega.{arith}
use Rattle.gather.proofs.path_entry.Goals as goal

pub loop-i-init : goal.loop-i-init
loop-i-init c = (omega arith, omega arith, refl, path_start c.args.b.now (c.args.at + 15) (replicate 256 0))

pub overflow_add-at : goal.overflow_add-at
overflow_add-at c = omega arith

pub overflow_mul-i : goal.overflow_mul-i
overflow_mul-i c = omega arith

pub overflow_add-at-in-loop-i : goal.overflow_add-at-in-loop-i
overflow_add-at-in-loop-i c = omega arith

pub put_word-requires : goal.put_word-requires
put_word-requires c = (omega arith, c.loop-i.invariant.2, omega (arith, c.loop-i.invariant.0, c.loop-i.invariant.1))

pub loop-i-preserved : goal.loop-i-preserved
loop-i-preserved c = (omega (arith, c.loop-i.invariant.0), c.loop-i.invariant.1, put_length c.put_word.ensures ∙ c.loop-i.invariant.2, path_next c.args.b.now (c.args.at + 15) _ _ c.loop-i.invariant.3 c.put_word.ensures)

pub slice_bounds-listing-start : goal.slice_bounds-listing-start
slice_bounds-listing-start c = omega arith

pub slice_bounds-listing-end : goal.slice_bounds-listing-end
slice_bounds-listing-end c = omega arith

pub returns : goal.returns
returns c = entry_at_lem c.args.s.now c.args.ix.now c.args.lookups.now c.args.b.now c.args.at c.head_at-h.ensures c.long-n.ensures.0 _ c.loop-i-test.false c.loop-i.invariant.3 c.listing.ensures
