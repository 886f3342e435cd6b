-- `checks::sources_in` meets its contract: the invariant is that the count so far and the sources from number j on make the whole count.
-- Assumes nothing.
use mathlib.Core.Path.{sym, ◌∙◌}
use Rattle.std.specs.Prelude.{◌≡◌, ◌<◌, ℕ, List}
use native.Mathlib.Omega.{arith}
use Rattle.checks.specs.Table.{source_by, sources_held, facts_by}
use Rattle.checks.specs.laws.Listed.{counted_start, counted_one, counted_none, counted_all, sources_most}
use Rattle.checks.proofs.sources_in.Goals.{then-source_number-file, else-source_number-file}
use Rattle.checks.proofs.sources_in.Goals as goal

pub loop-j-init : goal.loop-j-init
loop-j-init c = (omega arith, counted_start c.args.file (source_by c.args.t.now) (sources_held c.args.t.now))

pub source_number-requires : goal.source_number-requires
source_number-requires c = omega (arith, sources_most c.args.t.now, c.sources-j-end.ensures)

pub overflow_add-count : goal.overflow_add-count
overflow_add-count c = omega (arith, sources_most c.args.t.now, c.sources-j-end.ensures)

pub loop-j-preserved : goal.loop-j-preserved
unfolding source_by
loop-j-preserved c =
    let t : List ℕ = c.args.t.now in
    let below : c.loop-j.j < sources_held t = omega (arith, c.sources-j-end.ensures) in
    elim c.if-source_number-file.branch [
      | then-source_number-file w ↦
          let here : (source_by t c.loop-j.j).file ≡ c.args.file = sym c.source_number.ensures ∙ w.if-source_number-file.true in (
            omega (arith, w.count-is),
            counted_one c.args.file (source_by t) (sources_held t) c.loop-j.count c.loop-j.j c.loop-j.invariant.1 below here w.count-is,
          )
      | else-source_number-file w ↦ (
        omega (arith, w.count-is),
        counted_none c.args.file (source_by t) (sources_held t) c.loop-j.count c.loop-j.j c.loop-j.invariant.1 below
            (λ e. w.if-source_number-file.false (c.source_number.ensures ∙ e)) w.count-is,
      )
    ]

pub returns : goal.returns
unfolding facts_by
returns c = counted_all c.args.file (source_by c.args.t.now) (sources_held c.args.t.now) c.loop-j.count c.loop-j.j c.loop-j.invariant.1 (omega (arith, c.sources-j-end.ensures))
