-- `checks::by_id` meets its contract: its three tests are the definition's. Assumes nothing.
use mathlib.Core.Path.{refl, sym, ap, ◌∙◌}
use mathlib.Core.Bool.{Bool, not, ◌&&◌}
use lib.Dec.{eqb, leb}
use Rattle.std.proofs.lemmas.Bool.{false≢true}
use Rattle.merged.specs.Machines.{sources_in}
use Rattle.checks.specs.Table.{source_number, source_by, facts_by}
use Rattle.checks.specs.laws.Told.{by_id_said}
use Rattle.checks.proofs.by_id.Goals.{then-is_silent, else-is_silent}
use Rattle.checks.proofs.by_id.Goals as goal

pub returns-then-has_several : goal.returns-then-has_several
returns-then-has_several c =
    elim c.if-is_silent.branch [
      | then-is_silent w ↦
          let several = sym w.value-is ∙ c.if-has_several.true in
          (λ i. sym w.if-is_silent.true i && sym several i && not (eqb c.source_number.result 0))
          ∙ by_id_said c.args.t.now c.args.j c.is_silent.ensures w.has_several.ensures c.source_number.ensures
      | else-is_silent w ↦ absurd (false≢true (cc))
    ]

pub returns-else-has_several : goal.returns-else-has_several
returns-else-has_several c =
    elim c.if-is_silent.branch [
      | then-is_silent w ↦
          let several = sym w.value-is ∙ c.if-has_several.false in
          c.if-has_several.false
          ∙ ((λ i. sym w.if-is_silent.true i && sym several i && not (eqb (source_number c.args.t.now c.args.j 1) 0))
          ∙ by_id_said c.args.t.now c.args.j c.is_silent.ensures w.has_several.ensures refl)
      | else-is_silent w ↦
          c.if-has_several.false
          ∙ (ap (λ (b : Bool). b && leb 2 (sources_in (source_by c.args.t.now c.args.j).file (facts_by c.args.t.now).sources) && not (eqb (source_number c.args.t.now c.args.j 1) 0)) (sym w.if-is_silent.false)
          ∙ by_id_said c.args.t.now c.args.j c.is_silent.ensures refl refl)
    ]
