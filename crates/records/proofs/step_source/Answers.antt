-- `step_source` is the step over the source record there: the verdict is the record's fault by `source_fault`, whose `wrong` is the code's two tests. Assumes nothing.
use Rattle.std.proofs.Common.{◌≡◌, refl, ◌||◌, leb, Err, arith, rules}
use Rattle.std.proofs.lemmas.Bool.Decides.{nat_tests}
use Rattle.records.specs.Faults.{is_container}
use Rattle.records.proofs.Steps.{step_bad, step_good, source_fault, source_small}
use Rattle.records.proofs.step_source.Goals.{then-st-from, else-st-from}
use Rattle.records.proofs.step_source.Goals as goal

pub is_container-requires : goal.is_container-requires
is_container-requires c = source_small c.args.s.now c.args.st c.requires c.source_at-found.ensures refl

pub returns-in_err-verdict : goal.returns-in_err-verdict
returns-in_err-verdict c =
    let w : c.if-st-from.verdict ≡ (leb c.args.st.files c.from.result || is_container c.args.st.containers c.source_at-found.result.file.0) = elim c.if-st-from.branch [ then-st-from w ↦ grind (arith, nat_tests) | else-st-from w ↦ grind (arith, nat_tests) ] in
    let e : c.from_residual.result ≡ Err c.in_err-verdict.field-0.0 = search rules in
    step_bad _ _ _ e (source_fault c.args.s.now c.args.st c.requires c.source_at-found.ensures c.from.ensures refl w c.in_err-verdict.ensures.first) c.in_err-verdict.ensures.some

pub returns : goal.returns
returns c =
    let w : c.if-st-from.verdict ≡ (leb c.args.st.files c.from.result || is_container c.args.st.containers c.source_at-found.result.file.0) = elim c.if-st-from.branch [ then-st-from w ↦ grind (arith, nat_tests) | else-st-from w ↦ grind (arith, nat_tests) ] in
    step_good _ _ _ (source_fault c.args.s.now c.args.st c.requires c.source_at-found.ensures c.from.ensures refl w c.in_ok-verdict.ensures.first) refl
