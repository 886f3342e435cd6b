-- `prints::print_bytes` meets its contract: the invariant is that the print so far, with the bytes that are left, is the print of all. Assumes nothing.
use mathlib.Core.Path.{refl, ap, ◌∙◌}
use native.Mathlib.Omega.{arith}
use Rattle.prints.specs.Prints.{step}
use Rattle.prints.specs.laws.Prints.{bytes_eight, bytes_more, bytes_none}
use Rattle.prints.proofs.print_bytes.Goals as goal

pub loop-i-init : goal.loop-i-init
loop-i-init c = refl

pub loop-i-preserved-then-end-i-ge8 : goal.loop-i-preserved-then-end-i-ge8
loop-i-preserved-then-end-i-ge8 c = bytes_eight _ _ _ _ c.requires c.if-end-i-ge8.true (c.with_word-print.ensures ∙ ap (step c.loop-i.print) c.word.ensures) ∙ c.loop-i.invariant

pub loop-i-preserved : goal.loop-i-preserved
loop-i-preserved c = bytes_more _ _ _ _ c.requires c.loop-i-test.true (λ h. omega arith) (c.with_word-print-else-end-i-ge8.ensures ∙ ap (step c.loop-i.print) c.long.ensures.0) ∙ c.loop-i.invariant

pub returns : goal.returns
returns c = bytes_none _ _ _ _ c.loop-i-test.false ∙ c.loop-i.invariant
