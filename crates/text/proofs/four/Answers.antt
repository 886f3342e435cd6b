-- `text::four` meets its contract: each return is what `four` computes to with the bytes that were found.
-- Assumes nothing.
use Rattle.text.specs.Reading.{pick}
use Rattle.text.specs.Strings.{tail, four, code_of}
use borrow.Author.Tests.{eq-eqb, ne_eqb}
use Rattle.text.proofs.four.Goals as goal

pub returns-then-not-second : goal.returns-then-not-second
unfolding four pick code_of
returns-then-not-second c = simp (← c.byte-b.ensures, ← c.byte-c.ensures, ← c.second.ensures, c.if-not-second.true)

pub returns-then-d-ne2 : goal.returns-then-d-ne2
unfolding four tail pick code_of
returns-then-d-ne2 c = simp (← c.byte-b.ensures, ← c.byte-c.ensures, ← c.second.ensures, c.if-not-second.false, ← c.byte-d.ensures, ne_eqb _ _ c.if-d-ne2.true)

pub returns-then-e-ne2 : goal.returns-then-e-ne2
unfolding four tail pick code_of
returns-then-e-ne2 c = simp (← c.byte-b.ensures, ← c.byte-c.ensures, ← c.second.ensures, c.if-not-second.false, ← c.byte-d.ensures, eq-eqb _ _ c.if-d-ne2.false, ← c.byte-e.ensures, ne_eqb _ _ c.if-e-ne2.true)

pub returns : goal.returns
unfolding four tail pick code_of
returns c = simp (← c.byte-b.ensures, ← c.byte-c.ensures, ← c.second.ensures, c.if-not-second.false, ← c.byte-d.ensures, eq-eqb _ _ c.if-d-ne2.false, ← c.byte-e.ensures, eq-eqb _ _ c.if-e-ne2.false)
