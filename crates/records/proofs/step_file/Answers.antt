-- `step_file` is the step over the file record there: the verdict is the record's fault by `file_fault`, whose `wrong` is the code's two tests. Assumes nothing.
use Rattle.std.proofs.Common.{◌≡◌, ◌||◌, eqb, Err, arith, rules}
use Rattle.std.proofs.lemmas.Bool.Decides.{nat_tests}
use Rattle.records.proofs.Steps.{step_bad, step_good, file_fault, file_next}
use Rattle.records.proofs.step_file.Goals.{then-head-eq0, else-head-eq0}
use Rattle.records.proofs.step_file.Goals as goal

pub mark-requires : goal.mark-requires
mark-requires c = (c.requires.few_files, c.requires.mask)

pub returns-in_err-verdict : goal.returns-in_err-verdict
returns-in_err-verdict c =
    let w : c.if-head-eq0.verdict ≡ (eqb c.head_at-head.result.length 0 || eqb c.head_at-head.result.claim 7) = elim c.if-head-eq0.branch [ then-head-eq0 w ↦ grind (arith, nat_tests) | else-head-eq0 w ↦ grind (arith, nat_tests) ] in
    let e : c.from_residual.result ≡ Err c.in_err-verdict.field-0.0 = search rules in
    step_bad _ _ _ e (file_fault c.args.s.now c.args.st c.requires c.head_at-head.ensures c.from.ensures w c.in_err-verdict.ensures.first) c.in_err-verdict.ensures.some

pub returns : goal.returns
returns c =
    let w : c.if-head-eq0.verdict ≡ (eqb c.head_at-head.result.length 0 || eqb c.head_at-head.result.claim 7) = elim c.if-head-eq0.branch [ then-head-eq0 w ↦ grind (arith, nat_tests) | else-head-eq0 w ↦ grind (arith, nat_tests) ] in
    step_good _ _ _ (file_fault c.args.s.now c.args.st c.requires c.head_at-head.ensures c.from.ensures w c.in_ok-verdict.ensures.first) (file_next c.args.s.now c.args.st c.requires c.head_at-head.ensures c.from.ensures c.mark.ensures)
