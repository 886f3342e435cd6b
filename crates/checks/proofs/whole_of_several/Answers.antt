-- `checks::whole_of_several` meets its contract: its two tests are the definition's. Assumes nothing.
use borrow.Author.Tests.{eq-eqb, ne_eqb}
use mathlib.Core.Path.{refl, sym, ap, ◌∙◌}
use mathlib.Core.Bool.{Bool, ◌&&◌}
use lib.Dec.{leb}
use Rattle.merged.specs.Machines.{sources_in}
use Rattle.checks.specs.Table.{source_by, facts_by}
use Rattle.checks.specs.laws.Told.{whole_said}
use Rattle.checks.proofs.whole_of_several.Goals as goal

pub returns-then-source_number-eq-WHOLE : goal.returns-then-source_number-eq-WHOLE
returns-then-source_number-eq-WHOLE c =
    ap (λ (b : Bool). b && c.has_several.result) (sym (eq-eqb c.source_number.result 1 c.if-source_number-eq-WHOLE.true))
    ∙ whole_said c.args.t.now c.args.j c.source_number.ensures c.has_several.ensures

pub returns-else-source_number-eq-WHOLE : goal.returns-else-source_number-eq-WHOLE
returns-else-source_number-eq-WHOLE c =
    let other = ne_eqb c.source_number.result 1 c.if-source_number-eq-WHOLE.false in
    other
    ∙ (ap (λ (b : Bool). b && leb 2 (sources_in (source_by c.args.t.now c.args.j).file (facts_by c.args.t.now).sources)) (sym other)
    ∙ whole_said c.args.t.now c.args.j c.source_number.ensures refl)
