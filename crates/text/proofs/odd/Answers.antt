-- `text::odd` meets its contract: a backslash has class 3, and the classes 19, 20 and 21 are ranges that comparing tells; any other byte that is not plain begins no character.
-- Assumes nothing.
use mathlib.Core.Path.{refl}
use native.Mathlib.Omega.{arith}
use Rattle.text.specs.Reading.{pick}
use Rattle.text.specs.Strings.{classed}
use Rattle.text.proofs.Quick.{other_was}
use Rattle.text.proofs.Coded.{by_class}
use Rattle.text.proofs.Told.{backslash}
use Rattle.text.proofs.Leads.{leads_two, leads_three, leads_four, leads_below, leads_above}
use Rattle.text.proofs.odd.Goals as goal

pub returns-then-b-eq92 : goal.returns-then-b-eq92
unfolding classed pick
returns-then-b-eq92 c = by_class _ _ (backslash _ _ c.requires.0 c.if-b-eq92.true) c.escape.ensures

pub returns-then-b-lt194 : goal.returns-then-b-lt194
returns-then-b-lt194 c = leads_below _ _ c.requires.0 refl c.if-b-eq92.false refl (other_was _ _ c.requires.0 c.requires.1) c.if-b-lt194.true

pub returns-then-b-lt224 : goal.returns-then-b-lt224
unfolding classed pick
returns-then-b-lt224 c = by_class _ _ (leads_two _ _ c.requires.0 refl (omega (arith, c.if-b-lt194.false)) c.if-b-lt224.true) c.two.ensures

pub returns-then-b-lt240 : goal.returns-then-b-lt240
unfolding classed pick
returns-then-b-lt240 c = by_class _ _ (leads_three _ _ c.requires.0 refl (omega (arith, c.if-b-lt224.false)) c.if-b-lt240.true) c.three.ensures

pub returns-then-b-lt245 : goal.returns-then-b-lt245
unfolding classed pick
returns-then-b-lt245 c = by_class _ _ (leads_four _ _ c.requires.0 refl (omega (arith, c.if-b-lt240.false)) c.if-b-lt245.true) c.four.ensures

pub returns-else-b-lt245 : goal.returns-else-b-lt245
returns-else-b-lt245 c = leads_above _ _ c.requires.0 refl c.if-b-eq92.false refl (other_was _ _ c.requires.0 c.requires.1) (omega (arith, c.if-b-lt245.false))
