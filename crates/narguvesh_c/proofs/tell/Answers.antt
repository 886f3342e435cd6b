-- `narguvesh_c::tell` meets its contract: a case for each kind of answer. Assumes nothing.
use mathlib.Core.Path.{sym, ap, ◌∙◌}
use Prim.Native.Nat.{ℕ}
use Rattle.std.specs.Prelude.{Result, replicate}
use Rattle.refusals.specs.declared.Refusal.{Refusal}
use Rattle.merged.specs.declared.Summary.{Summary}
use Rattle.merged.specs.Answers.{told}
use Rattle.narguvesh_c.specs.Plain.{number_of, summary_of, events_in}
use Rattle.narguvesh_c.proofs.tell.Goals as goal

pub counted-requires : goal.counted-requires
unfolding events_in
counted-requires c = rw c.in-Ok.is at c.requires

pub returns-in-Ok : goal.returns-in-Ok
unfolding number_of summary_of
returns-in-Ok c = (
  sym (ap (λ (r : Result Summary Refusal). number_of (told r)) c.in-Ok.is),
  c.counted.ensures ∙ sym (ap (λ (r : Result Summary Refusal). summary_of (told r)) c.in-Ok.is),
)

pub returns-in-Err : goal.returns-in-Err
unfolding number_of summary_of
returns-in-Err c = (
  c.number.ensures ∙ sym (ap (λ (r : Result Summary Refusal). number_of (told r)) c.in-Err.is),
  c.fill.ensures.after (λ y h. h)
      ∙ (ap (λ (n : ℕ). replicate {A = ℕ} n 0) c.told-summary ∙ sym (ap (λ (r : Result Summary Refusal). summary_of (told r)) c.in-Err.is)),
)
