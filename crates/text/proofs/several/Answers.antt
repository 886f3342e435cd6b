-- `text::several` meets its contract: past the end and below 128 none stands, and elsewhere `wide` tells what reading the character gives.
-- Assumes nothing.
use Rattle.text.proofs.SeveralBytes.{several_at_lem, several_past, several_few, several_wide}
use Rattle.text.proofs.several.Goals as goal

pub returns-then-s-at : goal.returns-then-s-at
returns-then-s-at c = several_past _ _ c.if-s-at.true

pub returns-then-s-at-lt128 : goal.returns-then-s-at-lt128
returns-then-s-at-lt128 c = several_few _ _ c.if-s-at.false c.if-s-at-lt128.true

pub wide-requires : goal.wide-requires
wide-requires c = several_at_lem _ _ c.if-s-at.false c.if-s-at-lt128.false

pub returns : goal.returns
returns c = several_wide _ _ c.if-s-at.false c.if-s-at-lt128.false c.wide.ensures
