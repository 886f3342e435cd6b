-- `text::wide` meets its contract: the first byte tells how many bytes a character has, and the bytes after it are held to what `two`, `three` and `four` ask of them.
-- Assumes nothing.
use Rattle.text.proofs.SeveralBytes.{several_below, several_above, several_second, several_two, several_third, several_three, several_fourth, several_four}
use native.Mathlib.Omega.{arith}
use Rattle.text.proofs.wide.Goals as goal

pub returns-then-b-lt194 : goal.returns-then-b-lt194
returns-then-b-lt194 c = several_below _ _ c.requires.0 c.byte-b.ensures (omega (arith, c.requires.1, c.byte-b.ensures)) c.if-b-lt194.true

pub returns-then-b-gt244 : goal.returns-then-b-gt244
returns-then-b-gt244 c = several_above _ _ c.requires.0 c.byte-b.ensures c.if-b-gt244.true

pub returns-then-not-follows : goal.returns-then-not-follows
returns-then-not-follows c = several_second _ _ c.requires.0 c.byte-b.ensures c.byte.ensures c.follows.ensures (omega (arith, c.if-b-lt194.false)) (omega (arith, c.if-b-gt244.false)) c.if-not-follows.true

pub returns-then-b-lt224 : goal.returns-then-b-lt224
returns-then-b-lt224 c = several_two _ _ c.requires.0 c.byte-b.ensures c.byte.ensures c.follows.ensures (omega (arith, c.if-b-lt194.false)) c.if-b-lt224.true c.if-not-follows.false

pub returns-then-byte-ne2 : goal.returns-then-byte-ne2
returns-then-byte-ne2 c = several_third _ _ c.requires.0 c.byte-b.ensures c.byte.ensures c.follows.ensures c.byte-2.ensures (omega (arith, c.if-b-lt224.false)) (omega (arith, c.if-b-gt244.false)) c.if-not-follows.false c.if-byte-ne2.true

pub returns-then-b-lt240 : goal.returns-then-b-lt240
returns-then-b-lt240 c = several_three _ _ c.requires.0 c.byte-b.ensures c.byte.ensures c.follows.ensures c.byte-2.ensures (omega (arith, c.if-b-lt224.false)) c.if-b-lt240.true c.if-not-follows.false c.if-byte-ne2.false

pub returns-then-byte-eq2 : goal.returns-then-byte-eq2
returns-then-byte-eq2 c = several_four _ _ c.requires.0 c.byte-b.ensures c.byte.ensures c.follows.ensures c.byte-2.ensures c.byte-3.ensures (omega (arith, c.if-b-lt240.false)) (omega (arith, c.if-b-gt244.false)) c.if-not-follows.false c.if-byte-ne2.false c.if-byte-eq2.true

pub returns-else-byte-eq2 : goal.returns-else-byte-eq2
returns-else-byte-eq2 c = several_fourth _ _ c.requires.0 c.byte-b.ensures c.byte.ensures c.follows.ensures c.byte-2.ensures c.byte-3.ensures (omega (arith, c.if-b-lt240.false)) (omega (arith, c.if-b-gt244.false)) c.if-not-follows.false c.if-byte-ne2.false c.if-byte-eq2.false
