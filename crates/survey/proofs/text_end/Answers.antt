-- `survey::text_end` meets its contract: a string that was read is a value of as many levels as one likes. Assumes nothing.
use Rattle.survey.proofs.Stepping.{text_fits}
use Rattle.survey.proofs.text_end.Goals as goal

pub returns : goal.returns
returns c = λ n l. text_fits _ _ l (c.string_end.ensures n)
