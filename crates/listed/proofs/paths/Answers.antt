-- `listed::paths` meets its contract: what is read of the own paths is enough for the cited ones and for a path in two entries. The length of the file of `trace_time` tells what is known
-- of sizes outside the entries. Assumes nothing.
use mathlib.Core.Path.{◌∙◌}
use native.Mathlib.Omega.{arith}
use Rattle.prints.specs.Prints.{path_print, path_prints}
use Rattle.prints.specs.laws.Tables.{tabled_all}
use Rattle.index.specs.Cited.{entry_cited}
use Rattle.listed.specs.laws.Rules.{broken_is, twice_is}
use Rattle.listed.specs.laws.Slots.{measured_held, read_still}
use Rattle.listed.specs.laws.Sizes.{trace_told}
use Rattle.listed.proofs.paths.Goals as goal

pub cited_entry-trace-requires : goal.cited_entry-trace-requires
cited_entry-trace-requires c = (read_still c.read_cited-cited.ensures.2 c.measured-measure.ensures.kept, measured_held (omega arith) c.measured-measure.ensures, c.measured-measure.ensures.printed)

pub returns : goal.returns
unfolding entry_cited path_prints
returns c = record { cites = c.read_cited-cited.ensures.0; trace = c.cited_entry-trace.ensures; prints = tabled_all (path_print c.args.s.now c.args.ix.now) (omega arith) c.read_paths-own.ensures.0.printed; broken = broken_is _ (trace_told c.args.s.now c.args.ix.now c.measured-measure.ensures.long c.inside.ensures c.size_broken-outside.ensures) c.read_paths-own.ensures.1 c.read_cited-cited.ensures.1 c.either-within.ensures c.either-broken.ensures; twice = c.path_twice-twice.ensures ∙ twice_is _ }
