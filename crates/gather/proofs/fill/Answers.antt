-- `fill` puts in the counts, the files and the sources; then no number of before is left. Assumes nothing.
use Rattle.gather.proofs.Steps.{known_put, table_made}
use Rattle.index.proofs.laws.Put.{put_length}
use mathlib.Core.Path.{◌∙◌}
use native.Mathlib.Omega.{arith}
use Rattle.gather.proofs.fill.Goals as goal

pub head_row-row-requires : goal.head_row-row-requires
head_row-row-requires c = c.requires.0

pub store-requires : goal.store-requires
store-requires c = (c.requires.1, omega arith)

pub put_files-requires : goal.put_files-requires
put_files-requires c = (c.requires.0, put_length c.store.ensures ∙ c.requires.1)

pub put_sources-requires : goal.put_sources-requires
put_sources-requires c = (c.requires.0, put_length c.put_files.ensures ∙ (put_length c.store.ensures ∙ c.requires.1), c.requires.2, known_put c.args.s.now c.args.ix.now c.args.lookups.now c.args.b.now c.args.t c.requires.0 c.put_files.ensures)

pub returns : goal.returns
returns c = table_made c.args.s.now c.args.ix.now c.args.lookups.now c.args.b.now c.args.t c.requires.1 c.head_row-row.ensures c.store.ensures c.put_files.ensures c.put_sources.ensures
