-- `checks::refusal_33_clocks_on_a_container` meets its contract: the test is that of each number of the range. Assumes nothing.
use borrow.Author.Rules.{rules}
use borrow.Author.Tests.{tests}
use mathlib.Core.Path.{◌∙◌}
use native.Mathlib.Omega.{arith}
use Rattle.std.proofs.lemmas.Iterator.{YieldsList-from_range}
use Rattle.std.proofs.lemmas.Iterator.Search.{any_from_yields_List}
use Rattle.checks.proofs.Ranges.{by_end}
use Rattle.merged.specs.Refusals.{refusal_33_clocks_on_a_container}
use Rattle.checks.specs.laws.Told.{clocks_on_container}
use Rattle.checks.specs.Table.{file_by, files_in, facts_by}
use Rattle.checks.specs.laws.Listed.{any_range, files_most}
use Rattle.checks.proofs.refusal_33_clocks_on_a_container.Goals as goal

pub any-requires-clause-callable : goal.any-requires-clause-callable
any-requires-clause-callable c = by_end (λ r. r.end) (λ s x t e. e.0) (λ t q x u same e. omega (arith, files_most c.args.t.now, c.files.ensures))

pub returns : goal.returns
unfolding facts_by refusal_33_clocks_on_a_container
returns c =
    any_from_yields_List (λ i. clocks_on_container (file_by c.args.t.now i)) _ _ c.any.result c.any.ensures.ran (YieldsList-from_range 0 (files_in c.args.t.now) (files_in c.args.t.now) (λ i. record { start = 0; end = c.files.ensures i }) (omega arith)) (λ x b q k. search (rules, tests))
    ∙ any_range clocks_on_container (file_by c.args.t.now) 0 (files_in c.args.t.now)
