-- `settled::fitted` meets its contract: what is known is tested. Assumes nothing.
use mathlib.Core.Path.{◌≡◌, sym, ap, ◌∙◌}
use Rattle.std.specs.Prelude.{Result, Ok, Err, IsErrAnd}
use Rattle.refusals.specs.declared.Refusal.{Refusal}
use Rattle.placed.specs.declared.Known.{Known}
use Rattle.placed.specs.Told.{as_told}
use Rattle.settled.specs.Settled.{fitted_in}
use Rattle.settled.specs.laws.Fits.{fitted_short, fitted_long}
use Rattle.settled.proofs.fitted.Goals as goal

-- what `?` hands on is the error itself
err_is : {P : Refusal → Type 0} (o : Result Known Refusal) {r : Refusal} → ((x : Refusal) → P x → x ≡ r) → IsErrAnd o P → o ≡ Err r
err_is (Ok k) f h = absurd h
err_is (Err x) f h = ap Err (f x h)

pub returns-in_err-known : goal.returns-in_err-known
unfolding fitted_in
returns-in_err-known c = ap as_told (err_is c.from_residual.result (λ x q. cc) c.from_residual.ensures.1) ∙ sym (ap (λ (o : Result Known Refusal). fitted_in c.args.room (as_told o)) c.in_err-known.was)

pub returns-then-not-is_roomy : goal.returns-then-not-is_roomy
returns-then-not-is_roomy c =
    fitted_short c.args.room _ c.is_roomy.ensures c.if-not-is_roomy.true
    ∙ sym (ap (λ (o : Result Known Refusal). fitted_in c.args.room (as_told o)) c.in_ok-known.was)

pub returns : goal.returns
returns c =
    fitted_long c.args.room _ c.is_roomy.ensures c.if-not-is_roomy.false
    ∙ sym (ap (λ (o : Result Known Refusal). fitted_in c.args.room (as_told o)) c.in_ok-known.was)
