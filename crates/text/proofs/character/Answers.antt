-- `text::character` meets its contract: past the end no character starts; a byte that is plain is itself; a backslash has class 3; any other arm is what `classed` computes to with the class that was found.
-- Assumes nothing.
use Prim.Native.Nat.{ℕ, ◌+◌}
use Rattle.text.specs.declared.Code.TheVariants.{Of}
use Rattle.text.specs.laws.Strings.{character_end}
use Rattle.text.specs.laws.Peek.{peek_at}
use Rattle.text.proofs.Quick.{plain_at, no_plain}
use Rattle.text.proofs.Coded.{by_class}
use Rattle.text.proofs.Told.{backslash, no_backslash}
use Rattle.text.specs.Class.{class_of}
use borrow.Author.Tests.{ne_eqb}
use mathlib.Core.Path.{◌∙◌, ap, sym}
use Rattle.text.specs.Strings.{classed, code_of}
use Rattle.text.specs.Reading.{pick}
use Rattle.text.proofs.character.Goals as goal

pub returns-then-s-at : goal.returns-then-s-at
unfolding code_of
returns-then-s-at c = sym (ap code_of (character_end _ _ c.if-s-at.true))

pub returns-then-plain : goal.returns-then-plain
unfolding code_of
returns-then-plain c = ap (λ (b : ℕ). Of b (c.args.at + 1)) c.byte.ensures ∙ sym (ap code_of (plain_at _ _ c.if-s-at.false c.plain.ensures c.if-plain.true))

pub returns-then-s-at-eq92 : goal.returns-then-s-at-eq92
unfolding classed pick
returns-then-s-at-eq92 c = by_class _ _ (backslash _ _ c.if-s-at.false c.if-s-at-eq92.true) c.escape.ensures

pub returns-in-19 : goal.returns-in-19
unfolding classed pick
returns-in-19 c = by_class _ _ (c.class.ensures ∙ ap class_of (peek_at _ _ c.if-s-at.false)) (simp c.in-19.is c.two.ensures)

pub returns-in-20 : goal.returns-in-20
unfolding classed pick
returns-in-20 c = by_class _ _ (c.class.ensures ∙ ap class_of (peek_at _ _ c.if-s-at.false)) (simp c.in-20.is c.three.ensures)

pub returns-in-21 : goal.returns-in-21
unfolding classed pick
returns-in-21 c = by_class _ _ (c.class.ensures ∙ ap class_of (peek_at _ _ c.if-s-at.false)) (simp c.in-21.is c.four.ensures)

pub returns-in_default : goal.returns-in_default
unfolding classed pick code_of
returns-in_default c = by_class _ _ (c.class.ensures ∙ ap class_of (peek_at _ _ c.if-s-at.false)) (simp (no_backslash _ c.class.ensures c.if-s-at-eq92.false, ne_eqb _ _ c.before.in_default.in_default-own.rest.0.0.1, ne_eqb _ _ c.before.in_default.in_default-own.rest.0.1, ne_eqb _ _ c.before.in_default.in_default-own.rest.1, no_plain _ c.class.ensures c.plain.ensures c.if-plain.false))
