-- `checks::refusal_32_path_not_in_sheet` meets its contract: an entry that lists no file is sought from the front on. Assumes nothing.
use borrow.Author.Rules.{rules}
use borrow.Author.Tests.{tests, eq-eqb}
use mathlib.Core.Path.{refl, sym, ap, ◌∙◌}
use mathlib.Core.Bool.{not}
use native.Mathlib.Omega.{arith}
use lib.ListN.{get_or}
use Rattle.std.proofs.lemmas.Iterator.{YieldsList-from_range}
use Rattle.std.proofs.lemmas.Iterator.Search.{any_from_yields_List}
use Rattle.manifest.specs.Rows.{any}
use Rattle.merged.specs.Refusals.{listed_by}
use Rattle.checks.specs.Table.{facts_by}
use Rattle.checks.specs.laws.Listed.{unused_range}
use Rattle.checks.specs.laws.Told.{path_no_file, path_start}
use Rattle.checks.proofs.refusal_32_path_not_in_sheet.Goals as goal

pub returns-then-files-ne0 : goal.returns-then-files-ne0
returns-then-files-ne0 c =
    any_from_yields_List (λ e. not (any (listed_by e) (facts_by c.args.t.now).files)) _ _ c.any.result c.any.ensures.ran (YieldsList-from_range 0 (get_or c.args.t.now 2 0) (get_or c.args.t.now 2 0) refl (omega arith)) (λ x b q k. search (rules, tests))
    ∙ (unused_range (facts_by c.args.t.now).files (get_or c.args.t.now 2 0) ∙ sym (path_start c.args.t.now c.files.ensures c.if-files-ne0.true))

pub returns-else-files-ne0 : goal.returns-else-files-ne0
returns-else-files-ne0 c = ap not (eq-eqb c.files.result 0 c.if-files-ne0.false) ∙ path_no_file c.args.t.now c.files.ensures c.if-files-ne0.false
