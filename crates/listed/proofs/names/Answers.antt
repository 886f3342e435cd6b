-- `listed::names` meets its contract: the invariant is that the cells of the entries from number i on lead to the end, from a state that reads as the one where the loop begins, and that
-- what was found so far and those entries decide 10 of names, and 13. Assumes nothing.
use mathlib.Core.Path.{refl, sym, ap, ◌∙◌}
use native.Mathlib.Omega.{arith}
use borrow.Author.Rules.{rules}
use Rattle.manifest.specs.Rules.{applies, refusal_13_empty_machine_name}
use Rattle.index.specs.Index.{manifest_of}
use Rattle.index.proofs.laws.Paths.{few_entries}
use Rattle.listed.specs.Settled.{Settled, settled_in}
use Rattle.listed.specs.laws.Rules.{names_10, names_are}
use Rattle.listed.specs.laws.Judged.{counts, all_start, all_on, all_done}
use Rattle.listed.specs.laws.Sized.{trace_name_told, entry_10, entry_13}
use Rattle.listed.specs.laws.Onward.{table_none, manifest_still, entries_first, entries_next, entries_last, entries_all, firsts_are}
use Rattle.listed.proofs.names.Goals as goal

pub settle-trace-requires : goal.settle-trace-requires
settle-trace-requires c = (omega arith, table_none (search rules) (search rules) (search rules))

pub loop-i-init : goal.loop-i-init
unfolding refusal_13_empty_machine_name
loop-i-init c = (c.settle-trace.ensures.0, entries_first c.args.s.now c.args.ix.now c.settle-trace.ensures.1 c.entries-n.result, all_start names_10 c.args.s.now c.settle-trace.new.ix (trace_name_told c.args.s.now c.args.ix.now refl c.settle-trace.ensures.2 c.no_name-broken.ensures ∙ ap names_10.outside (sym (manifest_still c.args.s.now c.args.ix.now c.settle-trace.ensures.1))), all_start refusal_13_empty_machine_name c.args.s.now c.settle-trace.new.ix refl)

pub settle_entry-found-requires : goal.settle_entry-found-requires
settle_entry-found-requires c = (omega (arith, few_entries c.settle-trace.new.ix, c.entries-n.ensures), c.loop-i.invariant.0)

pub overflow_add-i : goal.overflow_add-i
overflow_add-i c = omega (arith, few_entries c.settle-trace.new.ix, c.entries-n.ensures)

pub loop-i-smaller : goal.loop-i-smaller
loop-i-smaller c = omega (arith, few_entries c.settle-trace.new.ix, c.entries-n.ensures)

pub loop-i-preserved : goal.loop-i-preserved
loop-i-preserved c = (c.settle_entry-found.ensures.0, entries_next c.entries-n.result c.loop-i.i c.loop-i.invariant.1 c.loop-i-test.true c.settle_entry-found.ensures.1, all_on names_10 c.args.s.now c.settle-trace.new.ix c.loop-i.broken c.entries-n.ensures c.loop-i.invariant.2 (entry_10 c.loop-i.invariant.1.alike c.loop-i.i c.settle_entry-found.ensures.2) (counts c.loop-i.broken _ c.loop-i-test.true c.either-broken.ensures), all_on refusal_13_empty_machine_name c.args.s.now c.settle-trace.new.ix c.loop-i.empty c.entries-n.ensures c.loop-i.invariant.3 (entry_13 c.loop-i.invariant.1.alike c.loop-i.i c.settle_entry-found.ensures.3) (counts c.loop-i.empty _ c.loop-i-test.true c.either-empty.ensures))

pub returns : goal.returns
unfolding settled_in
returns c = record { index = ap (λ (t : Settled). t.index) (entries_last c.entries-n.result c.loop-i.i c.loop-i.invariant.1 c.loop-i-test.false ∙ entries_all c.args.s.now c.args.ix.now c.settle-trace.ensures.1 c.entries-n.ensures); firsts = firsts_are c.args.ix.now c.loop-i.invariant.0 (entries_last c.entries-n.result c.loop-i.i c.loop-i.invariant.1 c.loop-i-test.false ∙ entries_all c.args.s.now c.args.ix.now c.settle-trace.ensures.1 c.entries-n.ensures); broken = all_done names_10 c.args.s.now c.settle-trace.new.ix c.loop-i.broken c.entries-n.ensures c.loop-i.invariant.2 c.loop-i-test.false ∙ ap (applies names_10) (manifest_still c.args.s.now c.args.ix.now c.settle-trace.ensures.1) ∙ names_are (manifest_of c.args.s.now c.args.ix.now); empty = all_done refusal_13_empty_machine_name c.args.s.now c.settle-trace.new.ix c.loop-i.empty c.entries-n.ensures c.loop-i.invariant.3 c.loop-i-test.false ∙ ap (applies refusal_13_empty_machine_name) (manifest_still c.args.s.now c.args.ix.now c.settle-trace.ensures.1) }
