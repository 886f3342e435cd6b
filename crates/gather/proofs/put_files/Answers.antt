-- `put_files`: the invariant is that the first f rows are put in. Assumes nothing.
use Rattle.gather.proofs.Steps.{place_is, places_length}
use Rattle.gather.specs.laws.Rows.{file_length, rows_start, rows_more, rows_end}
use Rattle.index.proofs.laws.Put.{put_length}
use mathlib.Core.Path.{◌∙◌}
use native.Mathlib.Omega.{arith}
use Rattle.gather.proofs.put_files.Goals as goal

pub recorded_files-recorded-requires : goal.recorded_files-recorded-requires
recorded_files-recorded-requires c = c.requires.0

pub loop-f-init : goal.loop-f-init
loop-f-init c = (omega arith, rows_start 6 _ (file_length c.args.s.now c.args.ix.now c.args.lookups.now c.args.b.now c.args.t) 4 (omega (arith, c.requires.1)))

pub bounds-places-f : goal.bounds-places-f
bounds-places-f c = omega (arith, places_length c.args.b.now _ c.file_places-places.ensures)

pub file_row-row-requires : goal.file_row-row-requires
file_row-row-requires c = (c.requires.0, omega (arith, c.wide.ensures.1), place_is c.args.b.now c.args.t _ c.requires.0 c.file_places-places.ensures c.wide.ensures.0, c.recorded_files-recorded.ensures)

pub overflow_mul-f : goal.overflow_mul-f
overflow_mul-f c = omega arith

pub overflow_add-f : goal.overflow_add-f
overflow_add-f c = omega arith

pub store-requires : goal.store-requires
store-requires c = (put_length c.loop-f.invariant.1 ∙ c.requires.1, omega arith)

pub loop-f-preserved : goal.loop-f-preserved
loop-f-preserved c = (omega arith, rows_more 6 _ (file_length c.args.s.now c.args.ix.now c.args.lookups.now c.args.b.now c.args.t) 4 _ c.loop-f.invariant.1 c.file_row-row.ensures c.store.ensures)

pub returns : goal.returns
returns c = rows_end 6 _ (file_length c.args.s.now c.args.ix.now c.args.lookups.now c.args.b.now c.args.t) 4 _ c.loop-f.invariant.0 c.loop-f-test.false c.loop-f.invariant.1
