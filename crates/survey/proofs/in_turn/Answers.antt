-- `survey::in_turn` meets its contract: the refusals are asked in the order in which the definition picks.
-- Assumes nothing.
use Rattle.survey.proofs.Steps.{turn_early, turn_object, turn_5}
use Rattle.survey.proofs.in_turn.Goals as goal

pub returns-then-refusal-ne0 : goal.returns-then-refusal-ne0
returns-then-refusal-ne0 c = turn_early _ c.requires c.early-refusal.ensures c.if-refusal-ne0.true

pub returns-in-At : goal.returns-in-At
returns-in-At c = turn_object _ c.requires c.early-refusal.ensures c.if-refusal-ne0.false c.root.ensures c.in-At.is c.object.ensures

pub returns-in-Refused : goal.returns-in-Refused
returns-in-Refused c = turn_5 _ c.requires c.early-refusal.ensures c.if-refusal-ne0.false c.root.ensures c.in-Refused.is
