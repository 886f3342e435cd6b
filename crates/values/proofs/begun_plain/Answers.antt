-- `values::begun_plain` meets its contract. The loop's invariant: the bytes so far are the first `n` of the text, and what is left of the string ends in the text, where it was the same up to `n`, as all of it does. A byte that is another decides, as it begins the character that stands there; where none does, the invariant is what is promised.
-- Assumes nothing.
use mathlib.Core.Path.{sym, ◌∙◌}
use native.Mathlib.Omega.{arith}
use Rattle.values.specs.laws.Ordinary.{inside}
use Rattle.values.proofs.Compare.{ends_start, ends_close, ends_byte_more}
use Rattle.values.proofs.Onward.{ends_first, undecided_told}
use Rattle.values.proofs.begun_plain.Goals as goal

pub loop-from-init : goal.loop-from-init
loop-from-init c = (omega arith, omega arith, omega arith, ends_start _ _)

pub returns-then-b-eq34 : goal.returns-then-b-eq34
returns-then-b-eq34 c = (λ _. ends_close _ _ _ _ c.loop-from.invariant.3 c.loop-from.invariant.0 (sym c.byte-b.ensures ∙ c.if-b-eq34.true), λ q. absurd (omega (arith, q, c.loop-from.invariant.0)))

pub returns-then-b-eq92 : goal.returns-then-b-eq92
returns-then-b-eq92 c = undecided_told _ _ _ _ _ c.loop-from.invariant.3 (λ q. c.if-b-eq34.false (c.byte-b.ensures ∙ q)) c.loop-from.invariant.1 c.loop-from.invariant.2 c.undecided.ensures

pub returns-then-byte-b : goal.returns-then-byte-b
returns-then-byte-b c = (λ _. ends_first _ _ _ _ c.loop-from.invariant.3 (λ q. c.if-b-eq34.false (c.byte-b.ensures ∙ q)) c.byte-b.ensures c.if-b-eq92.false c.byte.ensures c.if-byte-b.true, λ q. absurd (omega (arith, q)))

pub returns-then-not-ordinary : goal.returns-then-not-ordinary
returns-then-not-ordinary c = undecided_told _ _ _ _ _ c.loop-from.invariant.3 (λ q. c.if-b-eq34.false (c.byte-b.ensures ∙ q)) c.loop-from.invariant.1 c.loop-from.invariant.2 c.undecided-then-not-ordinary.ensures

pub overflow_add-i : goal.overflow_add-i
overflow_add-i c = omega (arith, inside _ _ c.byte-b.ensures (c.ordinary.ensures.0 c.if-not-ordinary.false))

pub overflow_add-n : goal.overflow_add-n
overflow_add-n c = omega (arith, inside _ _ (sym c.if-byte-b.false ∙ c.byte.ensures) (c.ordinary.ensures.0 c.if-not-ordinary.false))

pub loop-from-smaller : goal.loop-from-smaller
loop-from-smaller c = omega (arith, inside _ _ c.byte-b.ensures (c.ordinary.ensures.0 c.if-not-ordinary.false))

pub loop-from-preserved : goal.loop-from-preserved
loop-from-preserved c = (omega (arith, inside _ _ (sym c.if-byte-b.false ∙ c.byte.ensures) (c.ordinary.ensures.0 c.if-not-ordinary.false)), omega (arith, c.loop-from.invariant.1), omega (arith, inside _ _ c.byte-b.ensures (c.ordinary.ensures.0 c.if-not-ordinary.false)), ends_byte_more _ _ _ _ c.loop-from.invariant.3 c.byte-b.ensures c.if-b-eq34.false (c.ordinary.ensures.0 c.if-not-ordinary.false) c.byte.ensures c.if-byte-b.false)
