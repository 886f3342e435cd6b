-- `survey::plain_end` meets its contract: the loop keeps that what is left of the string stands at i, since each byte that it passes is a character by itself; and a
-- quote closes it. Assumes nothing.
use mathlib.Core.Path.{refl, ◌∙◌}
use native.Mathlib.Omega.{arith}
use Rattle.text.specs.laws.Peek.{found_in}
use Rattle.values.specs.laws.Ordinary.{inside}
use Rattle.survey.proofs.Ends.{string_opens, rest_closes, rest_onward}
use Rattle.survey.proofs.plain_end.Goals as goal

pub returns-then-byte-ne34 : goal.returns-then-byte-ne34
returns-then-byte-ne34 c = λ n. absurd (n refl)

pub overflow_add-i : goal.overflow_add-i
overflow_add-i c = omega (arith, found_in _ _ c.byte.ensures c.if-byte-ne34.false tt)

pub loop-left-init : goal.loop-left-init
loop-left-init c = string_opens _ _ c.byte.ensures c.if-byte-ne34.false

pub overflow_add-result : goal.overflow_add-result
overflow_add-result c = omega (arith, found_in _ _ c.byte-b.ensures c.if-b-eq34.true tt)

pub returns-then-b-eq34 : goal.returns-then-b-eq34
returns-then-b-eq34 c = λ _. c.loop-left.invariant ∙ rest_closes _ _ c.byte-b.ensures c.if-b-eq34.true

pub returns-then-b-lt32 : goal.returns-then-b-lt32
returns-then-b-lt32 c = λ n. absurd (n refl)

pub returns-then-b-gt127 : goal.returns-then-b-gt127
returns-then-b-gt127 c = λ n. absurd (n refl)

pub returns-then-b-eq92 : goal.returns-then-b-eq92
returns-then-b-eq92 c = λ n. absurd (n refl)

pub overflow_add-i-in-loop-left : goal.overflow_add-i-in-loop-left
overflow_add-i-in-loop-left c = omega (arith, inside _ _ c.byte-b.ensures (record { low = c.if-b-lt32.false; high = c.if-b-gt127.false; other = c.if-b-eq92.false }))

pub loop-left-preserved : goal.loop-left-preserved
loop-left-preserved c = c.loop-left.invariant ∙ rest_onward _ _ c.byte-b.ensures c.if-b-eq34.false (record { low = c.if-b-lt32.false; high = c.if-b-gt127.false; other = c.if-b-eq92.false })

pub returns : goal.returns
returns c = λ n. absurd (n refl)
