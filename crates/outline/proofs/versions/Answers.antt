-- `outline::versions` meets its contract. One version, found with its place, decides alone. Of several, the loop's invariant: the members that are left decide, those passed being no wrong version. What is ahead of the text falls. Assumes nothing.
use mathlib.Core.Path.{ap}
use Rattle.outline.proofs.Walk.{walk_none, walk_start, one_wrong, one_right, walk_hit, walk_on, walk_falls, walk_end}
use Rattle.outline.proofs.versions.Goals as goal

pub returns-then-found-eq0 : goal.returns-then-found-eq0
returns-then-found-eq0 c = walk_none _ _ (ap (λ m. m.count) c.member_at-found.ensures) c.if-found-eq0.true

pub returns-then-not_one_at : goal.returns-then-not_one_at
returns-then-not_one_at c = one_wrong _ _ c.member_at-found.ensures c.if-found-eq1.true c.not_one_at.ensures c.if-not_one_at.true

pub returns-then-found-eq1 : goal.returns-then-found-eq1
returns-then-found-eq1 c = one_right _ _ c.member_at-found.ensures c.if-found-eq1.true c.not_one_at.ensures c.if-not_one_at.false

pub loop-member-init : goal.loop-member-init
loop-member-init c = walk_start _ _ (ap (λ m. m.count) c.member_at-found.ensures) c.if-found-eq0.false c.first_member-member.ensures

pub returns-then-wrong_version : goal.returns-then-wrong_version
returns-then-wrong_version c = walk_hit _ _ _ c.loop-member.invariant c.in-Named.is c.wrong_version.ensures c.if-wrong_version.true

pub loop-member-smaller : goal.loop-member-smaller
loop-member-smaller c = walk_falls _ _ _ c.loop-member.invariant c.in-Named.is c.wrong_version.ensures c.if-wrong_version.false c.next_member-member.ensures

pub loop-member-preserved : goal.loop-member-preserved
loop-member-preserved c = walk_on _ _ _ c.loop-member.invariant c.in-Named.is c.wrong_version.ensures c.if-wrong_version.false c.next_member-member.ensures

pub returns-in-Last : goal.returns-in-Last
returns-in-Last c = walk_end _ _ _ c.loop-member.invariant c.in-Last.is
