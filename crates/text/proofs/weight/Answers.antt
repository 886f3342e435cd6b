-- `text::weight` meets its contract: the weight times 0 for a plain byte, and times 1 for any other.
-- Assumes nothing.
use Rattle.text.specs.Reading.{pick}
use native.Mathlib.Nat.{mul-zero, mul-one}
use Prim.Native.Nat.{◌*◌}
use mathlib.Core.Bool.{Bool}
use mathlib.Core.Path.{◌∙◌, ap, sym}
use Rattle.text.proofs.weight.Goals as goal

pub returns-then-plain : goal.returns-then-plain
unfolding pick
returns-then-plain c = sym (ap (λ (t : Bool). c.args.w * pick t 0 1) (sym c.plain.ensures ∙ c.if-plain.true) ∙ mul-zero _)

pub returns-else-plain : goal.returns-else-plain
unfolding pick
returns-else-plain c = sym (ap (λ (t : Bool). c.args.w * pick t 0 1) (sym c.plain.ensures ∙ c.if-plain.false) ∙ mul-one _)
