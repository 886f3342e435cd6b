-- `put_sources`: the invariant is that the first j rows are put in; then the entries of the files are as they were. Assumes nothing.
use Rattle.gather.proofs.Steps.{known_kept}
use Rattle.gather.specs.laws.Rows.{source_length, rows_start, rows_more, rows_end}
use Rattle.index.proofs.laws.Put.{put_length}
use mathlib.Core.Path.{◌∙◌}
use native.Mathlib.Omega.{arith}
use Rattle.gather.proofs.put_sources.Goals as goal

pub loop-j-init : goal.loop-j-init
loop-j-init c = (omega arith, rows_start 4 _ (source_length c.args.s.now c.args.ix.now c.args.lookups.now c.args.b.now c.args.t) 196 (omega (arith, c.requires.1)))

pub source_row-row-requires : goal.source_row-row-requires
source_row-row-requires c = (c.requires.0, c.requires.2, known_kept c.args.s.now c.args.ix.now c.args.lookups.now c.args.b.now c.args.t c.requires.0 c.requires.3 c.loop-j.invariant.1)

pub overflow_mul-j : goal.overflow_mul-j
overflow_mul-j c = omega arith

pub overflow_add-j : goal.overflow_add-j
overflow_add-j c = omega arith

pub store-requires : goal.store-requires
store-requires c = (put_length c.loop-j.invariant.1 ∙ c.requires.1, omega arith)

pub loop-j-preserved : goal.loop-j-preserved
loop-j-preserved c = (omega arith, rows_more 4 _ (source_length c.args.s.now c.args.ix.now c.args.lookups.now c.args.b.now c.args.t) 196 _ c.loop-j.invariant.1 c.source_row-row.ensures c.store.ensures)

pub returns : goal.returns
returns c = rows_end 4 _ (source_length c.args.s.now c.args.ix.now c.args.lookups.now c.args.b.now c.args.t) 196 _ c.loop-j.invariant.0 c.loop-j-test.false c.loop-j.invariant.1
