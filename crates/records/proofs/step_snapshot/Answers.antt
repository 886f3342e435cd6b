-- `step_snapshot` is the step over the snapshot record there: the verdict is the record's fault by `snapshot_fault`, whose `wrong` is the code's two tests. Assumes nothing.
use Rattle.std.proofs.Common.{◌≡◌, refl, ◌||◌, leb, Err, arith, rules}
use Rattle.std.proofs.lemmas.Bool.Decides.{nat_tests}
use Rattle.records.specs.Faults.{clocks_wrong}
use Rattle.records.proofs.Steps.{step_bad, step_good, snapshot_fault}
use Rattle.records.proofs.step_snapshot.Goals.{then-st-from, else-st-from}
use Rattle.records.proofs.step_snapshot.Goals as goal

pub returns-in_err-verdict : goal.returns-in_err-verdict
returns-in_err-verdict c =
    let w : c.if-st-from.verdict ≡ (leb c.args.st.sources c.from.result || clocks_wrong c.snapshot_at-found.result.clock c.snapshot_at-found.result.clock2) = elim c.if-st-from.branch [ then-st-from w ↦ grind (arith, nat_tests) | else-st-from w ↦ grind (arith, nat_tests) ] in
    let e : c.from_residual.result ≡ Err c.in_err-verdict.field-0.0 = search rules in
    step_bad _ _ _ e (snapshot_fault c.args.s.now c.args.st c.requires c.snapshot_at-found.ensures c.from.ensures refl w c.in_err-verdict.ensures.first) c.in_err-verdict.ensures.some

pub returns : goal.returns
returns c =
    let w : c.if-st-from.verdict ≡ (leb c.args.st.sources c.from.result || clocks_wrong c.snapshot_at-found.result.clock c.snapshot_at-found.result.clock2) = elim c.if-st-from.branch [ then-st-from w ↦ grind (arith, nat_tests) | else-st-from w ↦ grind (arith, nat_tests) ] in
    step_good _ _ _ (snapshot_fault c.args.s.now c.args.st c.requires c.snapshot_at-found.ensures c.from.ensures refl w c.in_ok-verdict.ensures.first) refl
