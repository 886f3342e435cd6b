-- `prints::put` meets its contract: where there is room the byte is stored behind the others, and where there is none the front stays as it is. Assumes nothing.
use mathlib.Core.Path.{refl}
use Rattle.prints.specs.laws.Fronts.{puts_byte, puts_past}
use Rattle.prints.proofs.put.Goals as goal
use Rattle.prints.proofs.put.Goals.{then-n-lt256, else-n-lt256}

pub returns : goal.returns
returns c =
    elim c.if-n-lt256.branch [
      | then-n-lt256 w ↦ puts_byte _ _ _ w.if-n-lt256.true w.text-is
      | else-n-lt256 w ↦ puts_past _ _ _ w.if-n-lt256.false w.text-is refl
    ]
