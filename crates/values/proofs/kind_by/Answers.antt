-- `values::kind_by` meets its contract: the code tests the byte in the order of the definition, so each answer is the definition's after the tests that failed and the one that held.
-- Assumes nothing.
use borrow.Author.Tests.{eq-eqb, ne_eqb}
use Rattle.text.specs.Reading.{pick}
use Rattle.values.specs.Stands.{kind_by}
use Rattle.values.proofs.kind_by.Goals as goal

pub returns-then-b-eq123 : goal.returns-then-b-eq123
unfolding kind_by pick
returns-then-b-eq123 c = simp (eq-eqb _ _ c.if-b-eq123.true)

pub returns-then-b-eq91 : goal.returns-then-b-eq91
unfolding kind_by pick
returns-then-b-eq91 c = simp (ne_eqb _ _ c.if-b-eq123.false, eq-eqb _ _ c.if-b-eq91.true)

pub returns-then-b-eq34 : goal.returns-then-b-eq34
unfolding kind_by pick
returns-then-b-eq34 c = simp (ne_eqb _ _ c.if-b-eq123.false, ne_eqb _ _ c.if-b-eq91.false, eq-eqb _ _ c.if-b-eq34.true)

pub returns-then-begins_number : goal.returns-then-begins_number
unfolding kind_by pick
returns-then-begins_number c = simp (ne_eqb _ _ c.if-b-eq123.false, ne_eqb _ _ c.if-b-eq91.false, ne_eqb _ _ c.if-b-eq34.false, ← c.begins_number.ensures, c.if-begins_number.true)

pub returns-then-either : goal.returns-then-either
unfolding kind_by pick
returns-then-either c = simp (ne_eqb _ _ c.if-b-eq123.false, ne_eqb _ _ c.if-b-eq91.false, ne_eqb _ _ c.if-b-eq34.false, ← c.begins_number.ensures, c.if-begins_number.false, ← c.either.ensures, c.if-either.true)

pub returns-then-b-eq110 : goal.returns-then-b-eq110
unfolding kind_by pick
returns-then-b-eq110 c = simp (ne_eqb _ _ c.if-b-eq123.false, ne_eqb _ _ c.if-b-eq91.false, ne_eqb _ _ c.if-b-eq34.false, ← c.begins_number.ensures, c.if-begins_number.false, ← c.either.ensures, c.if-either.false, eq-eqb _ _ c.if-b-eq110.true)

pub returns-else-b-eq110 : goal.returns-else-b-eq110
unfolding kind_by pick
returns-else-b-eq110 c = simp (ne_eqb _ _ c.if-b-eq123.false, ne_eqb _ _ c.if-b-eq91.false, ne_eqb _ _ c.if-b-eq34.false, ← c.begins_number.ensures, c.if-begins_number.false, ← c.either.ensures, c.if-either.false, ne_eqb _ _ c.if-b-eq110.false)
