-- `narguvesh_c::counted` meets its contract: each number as the function that makes it promises. Assumes nothing.
use mathlib.Core.Path.{refl}
use Rattle.narguvesh_c.specs.Plain.{counts_of}
use Rattle.narguvesh_c.proofs.counted.Goals as goal

pub returns : goal.returns
unfolding counts_of
returns c = rw (c.clock_number.ensures, c.from-machines.ensures, c.from.ensures) refl
