-- `outline::coarse` meets its contract: nothing is left of the string, or _COARSE is, or neither. Assumes nothing.
use mathlib.Core.Path.{ap}
use Rattle.outline.specs.laws.Names.{capitals}
use Rattle.outline.proofs.Clocks.{coarse_here, coarse_none, coarse_ended, same_behind}
use Rattle.outline.proofs.coarse.Goals as goal

pub returns-then-byte-eq34 : goal.returns-then-byte-eq34
returns-then-byte-eq34 c = coarse_here _ _ c.byte.ensures _ c.if-byte-eq34.true

pub past-q-requires : goal.past-q-requires
past-q-requires c = (c.requires.0, ap capitals c.requires.2)

pub returns-then-q-eq0 : goal.returns-then-q-eq0
returns-then-q-eq0 c = coarse_none _ _ c.byte.ensures c.if-byte-eq34.false (same_behind c.requires.2 c.past-q.ensures) _ c.if-q-eq0.true

pub returns : goal.returns
returns c = coarse_ended _ _ c.byte.ensures c.if-byte-eq34.false (same_behind c.requires.2 c.past-q.ensures) _ c.if-q-eq0.false c.ended.ensures
