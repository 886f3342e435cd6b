-- `known::tell` meets its contract: a case for each verdict. Assumes nothing.
use borrow.Author.Rules.{rules}
use mathlib.Core.Path.{◌≡◌, sym, ap, ◌∙◌}
use Rattle.std.specs.Prelude.{Result, Ok, Err, IsErrAnd}
use Rattle.placed.specs.declared.Known.{Known}
use Rattle.refusals.specs.declared.Refusal.{Refusal}
use Rattle.refusals.specs.Refusals.{refused}
use Rattle.placed.specs.Told.{Refused, as_told}
use Rattle.known.specs.Known.{table_in}
use Rattle.sheet.specs.Sheets.{told as sheet_told}
use Rattle.known.specs.laws.Numbers.{refused_some}
use Rattle.known.specs.laws.Verdicts.{by_manifest, by_sheet, by_both, by_none}
use Rattle.known.proofs.tell.Goals as goal

-- what `?` hands on is the error itself
err_is : {P : Refusal → Type 0} (o : Result Known Refusal) {r : Refusal} → ((x : Refusal) → P x → x ≡ r) → IsErrAnd o P → o ≡ Err r
err_is (Ok k) f h = absurd h
err_is (Err x) f h = ap Err (f x h)

pub returns-in_err-manifest : goal.returns-in_err-manifest
returns-in_err-manifest c =
    let l = c.args in
    let e = c.in_err-manifest.was in
    ap as_told (err_is c.from_residual.result (λ x q. cc) c.from_residual.ensures.1) ∙ (ap (λ (x : Result Unit Refusal). Refused (refused x)) (sym e) ∙ by_manifest (refused l.manifest) (sheet_told l.sheet) (refused l.both) l.given (refused_some e))

pub returns-in_err-table : goal.returns-in_err-table
returns-in_err-table c =
    let l = c.args in
    ap as_told (err_is c.from_residual-in_err-table.result (λ x q. cc) c.from_residual-in_err-table.ensures.1)
    ∙ by_sheet (refused l.manifest) (sheet_told l.sheet) (refused l.both) l.given (ap refused c.in_ok-manifest.was) (ap sheet_told c.in_err-table.was)

pub returns-in_err-both : goal.returns-in_err-both
returns-in_err-both c =
    let l = c.args in
    let e = c.in_err-both.was in
    ap as_told (err_is c.from_residual-in_err-both.result (λ x q. cc) c.from_residual-in_err-both.ensures.1)
    ∙ (ap (λ (x : Result Unit Refusal). Refused (refused x)) (sym e)
    ∙ by_both (refused l.manifest) (sheet_told l.sheet) (refused l.both) l.given (ap refused c.in_ok-manifest.was) (ap sheet_told c.in_ok-table.was) (refused_some e))

pub overflow_cast-result : goal.overflow_cast-result
unfolding table_in
overflow_cast-result c = let h = rw c.in_ok-table.was at c.requires in search rules

pub returns : goal.returns
returns c =
    let l = c.args in
    by_none (refused l.manifest) (sheet_told l.sheet) (refused l.both) l.given (ap refused c.in_ok-manifest.was) (ap sheet_told c.in_ok-table.was) (ap refused c.in_ok-both.was)
