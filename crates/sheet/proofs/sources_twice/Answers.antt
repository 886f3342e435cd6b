-- `sources_twice` looks for each source's key among the later ones. The invariant says that the sources from one on repeat themselves exactly if all do.
-- Assumes nothing.
use Rattle.sheet.proofs.Again.{repeats_hit, repeats_miss, repeats_none}
use Rattle.sheet.proofs.Keying.{sources_start, sources_on, sources_past, found_later, any_among}
use Rattle.sheet.specs.Twice.{repeats, same_source}
use native.Mathlib.Omega.{arith}
use mathlib.Core.Path.{sym, ap, ◌∙◌}
use Rattle.sheet.proofs.sources_twice.Goals as goal

pub loop-i-init : goal.loop-i-init
loop-i-init c = ap (repeats same_source) (sources_start c.args.s.now c.args.from c.args.n)

pub returns-then-contains : goal.returns-then-contains
returns-then-contains c = repeats_hit same_source (sources_on c.args.s.now c.args.from c.args.n c.loop-i.i (omega arith)) (found_later c.args.s.now c.args.from c.requires.0 c.source_keys-keys.ensures c.loop-i.i (omega arith) (c.contains.ensures.value ∙ any_among _ _)) c.if-contains.true ∙ c.loop-i.invariant

pub loop-i-preserved : goal.loop-i-preserved
loop-i-preserved c = sym (repeats_miss same_source (sources_on c.args.s.now c.args.from c.args.n c.loop-i.i (omega arith)) (found_later c.args.s.now c.args.from c.requires.0 c.source_keys-keys.ensures c.loop-i.i (omega arith) (c.contains.ensures.value ∙ any_among _ _)) c.if-contains.false) ∙ c.loop-i.invariant

pub returns : goal.returns
returns c = repeats_none same_source (sources_past c.args.s.now c.args.from c.args.n c.loop-i.i (omega arith)) ∙ c.loop-i.invariant
