-- `values::begun` meets its contract: either `begun_plain` told it, or `begun_rest` tells it of what is left past the bytes that were the same.
-- Assumes nothing.
use mathlib.Core.Path.{◌∙◌}
use native.Mathlib.Omega.{arith}
use Rattle.values.proofs.begun.Goals as goal

pub returns-then-n-t : goal.returns-then-n-t
returns-then-n-t c = c.begun_plain-n.ensures.0 c.if-n-t.true

pub overflow_add-from : goal.overflow_add-from
overflow_add-from c = omega (arith, (c.begun_plain-n.ensures.1 (omega (arith, c.if-n-t.false))).fits)

pub begun_rest-requires : goal.begun_rest-requires
begun_rest-requires c = (c.begun_plain-n.ensures.1 (omega (arith, c.if-n-t.false))).within

pub returns : goal.returns
returns c = c.begun_rest.ensures ∙ (c.begun_plain-n.ensures.1 (omega (arith, c.if-n-t.false))).on
