-- `narguvesh_c::clock_number` meets its contract: a case for each kind of trace time. Assumes nothing.
use mathlib.Core.Path.{sym, ap, ◌∙◌}
use Rattle.narguvesh_c.specs.Plain.{clock_of}
use Rattle.narguvesh_c.proofs.clock_number.Goals as goal

pub returns-in-Some : goal.returns-in-Some
unfolding clock_of
returns-in-Some c = c.from.ensures ∙ sym (ap clock_of c.in-Some.is)

pub returns-in-None : goal.returns-in-None
unfolding clock_of
returns-in-None c = sym (ap clock_of c.in-None.is)
