-- `cited::refusal_19_file_names_no_entry` meets its contract: what stands outside the entries is asked first; then the invariant is that the entries from number i on decide.
-- Assumes nothing.
use Rattle.index.proofs.laws.Paths.{few_entries}
use native.Mathlib.Omega.{arith}
use Rattle.manifest.specs.Rules.{refusal_19_file_names_no_entry}
use Rattle.cited.specs.laws.Within.{applies_before, applies_start, applies_here, applies_on, applies_past}
use Rattle.cited.proofs.refusal_19_file_names_no_entry.Goals as goal

pub refusal_19_outside-requires : goal.refusal_19_outside-requires
refusal_19_outside-requires c = c.requires.1

pub returns-then-refusal_19_outside : goal.returns-then-refusal_19_outside
returns-then-refusal_19_outside c = applies_before refusal_19_file_names_no_entry c.args.s.now c.args.ix.now c.refusal_19_outside.ensures c.if-refusal_19_outside.true

pub loop-i-init : goal.loop-i-init
loop-i-init c = (omega arith, applies_start refusal_19_file_names_no_entry c.args.s.now c.args.ix.now c.refusal_19_outside.ensures c.if-refusal_19_outside.false)

pub refusal_19_in-requires : goal.refusal_19_in-requires
refusal_19_in-requires c = (omega (arith, few_entries c.args.ix.now, c.entries-n.ensures, c.loop-i-test.true), c.requires.0)

pub returns-then-refusal_19_in : goal.returns-then-refusal_19_in
returns-then-refusal_19_in c = applies_here refusal_19_file_names_no_entry c.args.s.now c.args.ix.now c.entries-n.ensures c.loop-i.invariant.1 c.loop-i-test.true c.refusal_19_in.ensures c.if-refusal_19_in.true

pub loop-i-preserved : goal.loop-i-preserved
loop-i-preserved c = (omega arith, applies_on refusal_19_file_names_no_entry c.args.s.now c.args.ix.now c.entries-n.ensures c.loop-i.invariant.1 c.loop-i-test.true c.refusal_19_in.ensures c.if-refusal_19_in.false)

pub returns : goal.returns
returns c = applies_past refusal_19_file_names_no_entry c.args.s.now c.args.ix.now c.entries-n.ensures c.loop-i.invariant.1 c.loop-i-test.false
