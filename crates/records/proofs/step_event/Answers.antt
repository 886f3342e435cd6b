-- `step_event` is the step over the event record there: the verdict is the record's fault by `event_fault`, whose `wrong` is the code's two tests. Assumes nothing.
use Rattle.std.proofs.Common.{◌≡◌, refl, ◌||◌, eqb, leb, Err, arith, rules}
use Rattle.std.proofs.lemmas.Bool.Decides.{nat_tests}
use Rattle.records.proofs.Steps.{step_bad, step_good, event_fault}
use Rattle.records.proofs.step_event.Goals.{then-st-from, else-st-from}
use Rattle.records.proofs.step_event.Goals as goal

pub returns-in_err-verdict : goal.returns-in_err-verdict
returns-in_err-verdict c =
    let w : c.if-st-from.verdict ≡ (leb c.args.st.sources c.from.result || eqb c.label_at-label.result.clock 7) = elim c.if-st-from.branch [ then-st-from w ↦ grind (arith, nat_tests) | else-st-from w ↦ grind (arith, nat_tests) ] in
    let e : c.from_residual.result ≡ Err c.in_err-verdict.field-0.0 = search rules in
    step_bad _ _ _ e (event_fault c.args.s.now c.args.st c.requires c.label_at-label.ensures.0 c.label_at-label.ensures.1 c.from.ensures w c.in_err-verdict.ensures.first) c.in_err-verdict.ensures.some

pub returns : goal.returns
returns c =
    let w : c.if-st-from.verdict ≡ (leb c.args.st.sources c.from.result || eqb c.label_at-label.result.clock 7) = elim c.if-st-from.branch [ then-st-from w ↦ grind (arith, nat_tests) | else-st-from w ↦ grind (arith, nat_tests) ] in
    step_good _ _ _ (event_fault c.args.s.now c.args.st c.requires c.label_at-label.ensures.0 c.label_at-label.ensures.1 c.from.ensures w c.in_ok-verdict.ensures.first) refl
