-- `checks::refusal_35_machine_on_several_sources` meets its contract: the test is that of each number of the range. Assumes nothing.
use borrow.Author.Rules.{rules}
use borrow.Author.Tests.{tests}
use mathlib.Core.Path.{◌∙◌}
use native.Mathlib.Omega.{arith}
use Rattle.std.proofs.lemmas.Iterator.{YieldsList-from_range}
use Rattle.std.proofs.lemmas.Iterator.Search.{any_from_yields_List}
use Rattle.checks.proofs.Ranges.{by_end}
use Rattle.merged.specs.Refusals.{refusal_35_machine_on_several_sources}
use Rattle.checks.specs.laws.Told.{whole_of_several}
use Rattle.checks.specs.Table.{source_by, sources_held, facts_by}
use Rattle.checks.specs.laws.Listed.{any_range, sources_most}
use Rattle.checks.proofs.refusal_35_machine_on_several_sources.Goals as goal

pub any-requires-clause-callable : goal.any-requires-clause-callable
any-requires-clause-callable c = by_end (λ r. r.end) (λ s x t e. e.0) (λ t q x u same e. omega (arith, sources_most c.args.t.now, c.sources.ensures))

pub returns : goal.returns
unfolding facts_by refusal_35_machine_on_several_sources
returns c =
    any_from_yields_List (λ i. whole_of_several (facts_by c.args.t.now).sources (source_by c.args.t.now i)) _ _ c.any.result c.any.ensures.ran (YieldsList-from_range 0 (sources_held c.args.t.now) (sources_held c.args.t.now) (λ i. record { start = 0; end = c.sources.ensures i }) (omega arith)) (λ x b q k. search (rules, tests))
    ∙ any_range (whole_of_several (facts_by c.args.t.now).sources) (source_by c.args.t.now) 0 (sources_held c.args.t.now)
