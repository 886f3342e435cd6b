-- `text::closed` meets its contract: the loop keeps that the string ends where the characters from i on end; a plain byte, and a character of so many bytes as `odd_width` says, is a step
-- of `characters` and goes forward, so what is left of the text falls. Where it says 0 none stands, so `odd` tells no code point.
-- Assumes nothing.
use mathlib.Core.Path.{◌∙◌, refl, sym}
use native.Mathlib.Omega.{arith}
use Rattle.text.specs.laws.Peek.{peek_at}
use Rattle.text.proofs.Quick.{plain_at, other_at}
use Rattle.text.proofs.Ends.{ends, ends_more, closes, stops, unclosed}
use Rattle.text.proofs.Widths.{none_read, passes, stays_in}
use borrow.Author.Rules.{rules}
use Rattle.text.proofs.closed.Goals as goal

pub loop-i-init : goal.loop-i-init
loop-i-init c = (refl, c.requires)

pub loop-i-preserved-then-plain : goal.loop-i-preserved-then-plain
loop-i-preserved-then-plain c = (c.loop-i.invariant.0 ∙ ends_more _ _ (plain_at c.args.s.now c.loop-i.i c.loop-i-test.true c.plain.ensures c.if-plain.true), search rules)

pub returns-then-b-eq34 : goal.returns-then-b-eq34
unfolding ends
returns-then-b-eq34 c = sym (c.loop-i.invariant.0 ∙ closes c.args.s.now c.loop-i.i (peek_at c.args.s.now c.loop-i.i c.loop-i-test.true) c.if-b-eq34.true)

pub odd_width-n-requires : goal.odd_width-n-requires
odd_width-n-requires c = (c.loop-i-test.true, other_at _ _ c.loop-i-test.true c.plain.ensures c.if-plain.false)

pub odd-requires : goal.odd-requires
odd-requires c = (c.loop-i-test.true, other_at _ _ c.loop-i-test.true c.plain.ensures c.if-plain.false)

pub returns-in-Of : goal.returns-in-Of
returns-in-Of c = absurd (none_read _ _ c.odd_width-n.ensures c.if-n-eq0.true c.odd.ensures c.in-Of.is)

pub returns-in-No : goal.returns-in-No
unfolding ends
returns-in-No c = sym (c.loop-i.invariant.0 ∙ stops _ _ (peek_at _ _ c.loop-i-test.true) c.if-b-eq34.false c.odd.ensures c.in-No.is)

pub overflow_add-i-in-loop-i : goal.overflow_add-i-in-loop-i
overflow_add-i-in-loop-i c = omega (arith, stays_in _ _ c.odd_width-n.ensures c.if-n-eq0.false c.loop-i.invariant.1)

pub loop-i-smaller : goal.loop-i-smaller
loop-i-smaller c = omega (arith, c.loop-i-test.true, c.if-n-eq0.false)

pub loop-i-preserved : goal.loop-i-preserved
loop-i-preserved c = (c.loop-i.invariant.0 ∙ passes _ _ c.odd_width-n.ensures c.if-n-eq0.false, stays_in _ _ c.odd_width-n.ensures c.if-n-eq0.false c.loop-i.invariant.1)

pub returns : goal.returns
unfolding ends
returns c = sym (c.loop-i.invariant.0 ∙ unclosed c.args.s.now c.loop-i.i c.loop-i-test.false)
