-- `prints::with_word` meets its contract: no sum passes 64 bits. Assumes nothing.
use mathlib.Core.Path.{refl}
use Rattle.prints.specs.Prints.{step}
use Rattle.prints.proofs.with_word.Goals as goal

pub returns : goal.returns
unfolding step
returns c = refl
