-- `survey::noted` meets its contract: a line has a column of its own in the object's row, which was free.
-- Assumes nothing.
use mathlib.Core.Path.{sym}
use mathlib.Core.Bool.{true≢false}
use native.Mathlib.Omega.{arith}
use Rattle.survey.proofs.Stepping.{column_low, column_small, noted_here, noted_none}
use Rattle.survey.proofs.noted.Goals as goal

pub overflow_sub-column : goal.overflow_sub-column
overflow_sub-column c = column_low _ c.requires.1 c.first.ensures _ c.if-line-lt20.true (c.requires.2 c.if-line-lt20.true)

pub bounds-found-column : goal.bounds-found-column
bounds-found-column c = column_small _ c.requires.1 c.first.ensures _ c.if-line-lt20.true (c.requires.2 c.if-line-lt20.true)

pub returns-then-found-column-ne0 : goal.returns-then-found-column-ne0
returns-then-found-column-ne0 c = λ z. absurd (true≢false (sym z))

pub bounds-found-column-then-line-lt20 : goal.bounds-found-column-then-line-lt20
bounds-found-column-then-line-lt20 c = column_small _ c.requires.1 c.first.ensures _ c.if-line-lt20.true (c.requires.2 c.if-line-lt20.true)

pub returns-else-found-column-ne0 : goal.returns-else-found-column-ne0
returns-else-found-column-ne0 c = λ _. noted_here _ c.requires.1 c.first.ensures _ c.if-line-lt20.true (c.requires.2 c.if-line-lt20.true) _ _ c.if-found-column-ne0.false

pub returns-else-line-lt20 : goal.returns-else-line-lt20
returns-else-line-lt20 c = λ _. noted_none _ _ _ _ (omega (arith, c.if-line-lt20.false))
