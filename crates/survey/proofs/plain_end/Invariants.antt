-- `survey::plain_end` meets its contract: the loop keeps that what is left of the string stands at i, since each byte that it passes is a character by itself; and a
-- quote closes it. Assumes nothing.
use mathlib.Core.Path.{◌≡◌}
use Rattle.text.specs.Reading.{scan}
use Rattle.text.specs.Strings.{string}
use Rattle.values.specs.Strings.{rest}
use Rattle.survey.proofs.plain_end.Given as goal

abbrev pub invariant-loop-left : goal.invariant-loop-left
invariant-loop-left l = scan (string l.s l.at) ≡ scan (rest l.s l.i)

abbrev pub decreases-loop-left : goal.decreases-loop-left
decreases-loop-left l = l.left
