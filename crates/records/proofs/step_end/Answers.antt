-- `step_end` is the step over the end record: the verdict is its fault, by what `after_end` says. Assumes nothing.
use Rattle.std.proofs.Common.{◌≡◌, refl, Err, rules}
use Rattle.refusals.specs.Refusals.{number}
use Rattle.records.specs.Layout.{ending}
use Rattle.records.specs.Faults.{fault}
use Rattle.records.proofs.Steps.{step_bad, step_good}
use Rattle.records.proofs.step_end.Goals as goal

pub returns-in_err-verdict : goal.returns-in_err-verdict
returns-in_err-verdict c =
    let e : c.from_residual.result ≡ Err c.in_err-verdict.field-0.0 = search rules in
    let f : number c.in_err-verdict.field-0.0 ≡ fault c.args.s.now c.args.st ending = rw c.after_end.ensures at c.in_err-verdict.ensures.first in
    step_bad _ _ _ e f c.in_err-verdict.ensures.some

pub returns : goal.returns
returns c =
    let f : 0 ≡ fault c.args.s.now c.args.st ending = rw c.after_end.ensures at c.in_ok-verdict.ensures.first in
    step_good _ _ _ f refl
