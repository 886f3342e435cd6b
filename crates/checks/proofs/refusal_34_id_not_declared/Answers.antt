-- `checks::refusal_34_id_not_declared` meets its contract: the test is that of each number of the range. Assumes nothing.
use borrow.Author.Rules.{rules}
use borrow.Author.Tests.{tests}
use mathlib.Core.Path.{◌∙◌}
use native.Mathlib.Omega.{arith}
use Rattle.std.proofs.lemmas.Iterator.{YieldsList-from_range}
use Rattle.std.proofs.lemmas.Iterator.Search.{any_from_yields_List}
use Rattle.checks.proofs.Ranges.{by_end}
use Rattle.merged.specs.Refusals.{refusal_34_id_not_declared}
use Rattle.checks.specs.laws.Told.{not_declared, undeclared_said}
use Rattle.checks.specs.Table.{source_by, sources_held, facts_by}
use Rattle.checks.specs.laws.Listed.{any_range, sources_most}
use Rattle.checks.proofs.refusal_34_id_not_declared.Goals as goal

pub any-requires-clause-callable : goal.any-requires-clause-callable
any-requires-clause-callable c = by_end (λ r. r.end) (λ s x t e. e.0) (λ t q x u same e. omega (arith, sources_most c.args.t.now, c.sources.ensures))

pub returns : goal.returns
unfolding facts_by refusal_34_id_not_declared
returns c =
    any_from_yields_List (λ i. not_declared (source_by c.args.t.now i)) _ _ c.any.result c.any.ensures.ran (YieldsList-from_range 0 (sources_held c.args.t.now) (sources_held c.args.t.now) (λ i. record { start = 0; end = c.sources.ensures i }) (omega arith)) (λ x b q k. search (rules, tests, undeclared_said))
    ∙ any_range not_declared (source_by c.args.t.now) 0 (sources_held c.args.t.now)
