-- `survey::survey` meets its contract: what the walk tells is the answer, and else each refusal was asked; a refusal leaves zeros.
-- Assumes nothing.
use Rattle.survey.proofs.Steps.{survey_none, survey_walked, survey_refused, survey_passed}
use Rattle.survey.proofs.survey.Goals as goal

pub returns-then-s-eq0 : goal.returns-then-s-eq0
returns-then-s-eq0 c = survey_none _ c.if-s-eq0.true c.clear.ensures

pub returns-then-walked : goal.returns-then-walked
returns-then-walked c = survey_walked _ (c.walked.ensures c.if-walked.true)

pub returns-then-refusal-ne0 : goal.returns-then-refusal-ne0
returns-then-refusal-ne0 c = survey_refused _ c.in_turn-refusal.ensures.0 c.if-refusal-ne0.true c.clear-then-refusal-ne0.ensures

pub returns-else-refusal-ne0 : goal.returns-else-refusal-ne0
returns-else-refusal-ne0 c = survey_passed _ c.in_turn-refusal.ensures.0 c.if-refusal-ne0.false c.in_turn-refusal.ensures.1
