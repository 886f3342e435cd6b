-- `checks::any_listed` meets its contract: the test is that of each number of the range. Assumes nothing.
use borrow.Author.Rules.{rules}
use borrow.Author.Tests.{tests}
use mathlib.Core.Path.{◌∙◌}
use native.Mathlib.Omega.{arith}
use Rattle.std.proofs.lemmas.Iterator.{YieldsList-from_range}
use Rattle.std.proofs.lemmas.Iterator.Search.{any_from_yields_List}
use Rattle.checks.proofs.Ranges.{by_end}
use Rattle.merged.specs.Refusals.{listed_by}
use Rattle.checks.specs.Table.{file_by, files_in, facts_by}
use Rattle.checks.specs.laws.Listed.{any_range, files_most}
use Rattle.checks.proofs.any_listed.Goals as goal

pub any-requires-clause-callable : goal.any-requires-clause-callable
any-requires-clause-callable c = by_end (λ r. r.end) (λ s x t e. e.0) (λ t q x u same e. omega (arith, files_most c.args.t.now, c.files.ensures))

pub returns : goal.returns
unfolding facts_by file_by
returns c =
    any_from_yields_List (λ i. listed_by c.args.entry (file_by c.args.t.now i)) _ _ c.any.result c.any.ensures.ran (YieldsList-from_range 0 (files_in c.args.t.now) (files_in c.args.t.now) (λ i. record { start = 0; end = c.files.ensures i }) (omega arith)) (λ x b q k. search (rules, tests))
    ∙ any_range (listed_by c.args.entry) (file_by c.args.t.now) 0 (files_in c.args.t.now)
