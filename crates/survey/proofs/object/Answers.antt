-- `survey::object` meets its contract: the refusals are asked in the order in which the definition picks.
-- Assumes nothing.
use Rattle.survey.proofs.Steps.{object_version, object_member, object_many, object_passed}
use Rattle.survey.proofs.object.Goals as goal

pub returns-then-version-ne0 : goal.returns-then-version-ne0
returns-then-version-ne0 c = object_version _ _ c.versions-version.ensures c.if-version-ne0.true

pub returns-then-member-ne0 : goal.returns-then-member-ne0
returns-then-member-ne0 c = object_member _ _ c.versions-version.ensures c.if-version-ne0.false c.judge-member.ensures c.if-member-ne0.true

pub returns-then-fill : goal.returns-then-fill
returns-then-fill c = object_many _ _ c.versions-version.ensures c.if-version-ne0.false c.judge-member.ensures c.if-member-ne0.false c.fill.ensures.0 c.if-fill.true

pub returns-else-fill : goal.returns-else-fill
returns-else-fill c = object_passed _ _ c.versions-version.ensures c.if-version-ne0.false c.judge-member.ensures c.if-member-ne0.false c.fill.ensures.0 c.if-fill.false c.fill.ensures.1
