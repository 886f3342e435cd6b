-- `answered::summary` meets its contract: the counts are those that are given; the trace-time clock is by whether there are files. Assumes nothing.
use Rattle.std.specs.Prelude.{◌≡◌, Bool, true, false, not, eqb, Option, Some, None}
use Rattle.std.specs.Bool.{then_some}
use Rattle.std.proofs.Common.{refl, ◌∙◌}
use Rattle.text.specs.Reading.{pick}
use Rattle.numbers.specs.declared.Clock.{Clock}
use Rattle.merged.specs.Answers.{Merged}
use Rattle.answered.specs.Answered.{summed}
use Rattle.answered.proofs.summary.Goals as goal

some_else : (b : Bool) (t : Clock) → then_some (not b) t ≡ pick b None (Some t)
unfolding pick
some_else true t = refl
some_else false t = refl

pub returns : goal.returns
unfolding summed
returns c =
    let g = c.args.given in
    λ i. Merged (record { files = g.files; machines = g.machines; events = g.events; trace = (c.then_some.ensures ∙ some_else (eqb g.files 0) g.trace) i })
