-- `named::fill` meets its contract: the invariant is that the names of the first i entries are added to a table of zeros, with their prints beside them; when all are added it is the table of the names.
-- Assumes nothing.
use mathlib.Core.Path.{ap, ◌∙◌}
use mathlib.Core.List.{map}
use native.Mathlib.Omega.{arith}
use Rattle.named.specs.Named.{name_print, print_table}
use Rattle.named.specs.laws.Kept.{printed_none, printed_all}
use Rattle.named.specs.laws.Filled.{zeros_long, up_to_start, up_to_next, table_done}
use Rattle.named.proofs.fill.Goals as goal

pub loop-i-init : goal.loop-i-init
loop-i-init c = (omega arith, up_to_start _ _ zeros_long (omega arith), printed_none _)

pub add_entry-t-requires : goal.add_entry-t-requires
add_entry-t-requires c = (c.loop-i.invariant.1.long, c.loop-i.invariant.1.few, c.loop-i.invariant.2)

pub loop-i-preserved : goal.loop-i-preserved
loop-i-preserved c = (omega arith, up_to_next _ _ _ c.loop-i.invariant.1 c.add_entry-t.ensures.0, c.add_entry-t.ensures.1)

pub returns : goal.returns
unfolding print_table
returns c = let e = table_done _ _ _ c.entries-entries.ensures c.loop-i.invariant.0 c.loop-i-test.false c.loop-i.invariant.1 in (e, printed_all c.args.s.now c.loop-i.invariant.1.long c.loop-i.invariant.2 ∙ ap (map (name_print c.args.s.now)) e)
