-- `listed::measured` meets its contract: where no string stands the text is empty, and the slot holds zeros; else the bytes of the text are put into it. Assumes nothing.
use mathlib.Core.Path.{ap, ◌∙◌}
use native.Mathlib.Omega.{arith}
use lib.ListN.{length}
use Rattle.prints.specs.laws.Fronts.{front_length}
use Rattle.listed.specs.laws.Slots.{kept_measured, none_measured}
use Rattle.listed.proofs.measured.Goals as goal

pub returns-then-byte-ne34 : goal.returns-then-byte-ne34
returns-then-byte-ne34 c = none_measured (λ q. c.if-byte-ne34.true (c.byte.ensures ∙ q)) c.clear.ensures

pub keep-requires : goal.keep-requires
keep-requires c = (omega arith, c.requires.1, ap length c.measure_at-m.ensures.text ∙ front_length _)

pub returns : goal.returns
returns c = kept_measured c.measure_at-m.ensures.length c.measure_at-m.ensures.print c.measure_at-m.ensures.text c.keep.ensures
