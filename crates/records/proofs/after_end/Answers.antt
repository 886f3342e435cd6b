-- `after_end` is its definition: the bits to the byte's end are fewer than 8, so that they are taken as one field. Assumes nothing.
use Rattle.std.proofs.Common.{◌≡◌, ap, ◌∙◌, ℕ, arith, lt-ltb, le-ltb}
use Rattle.bits.specs.Bits.{number}
use Rattle.bits.specs.laws.Fields.{take_in}
use Rattle.bits.specs.declared.Taken.{Taken}
use Rattle.records.specs.Faults.{to_byte_end, after_end}
use Rattle.records.proofs.after_end.Goals as goal

pub returns-then-rest-gt0 : goal.returns-then-rest-gt0
unfolding after_end
returns-then-rest-gt0 c =
    let a = c.args in
    let v : c.take-rest.result.value ≡ number a.s.now a.e (to_byte_end a.e) = ap (λ (t : Taken ℕ). t.value) (c.take-rest.ensures ∙ take_in a.s.now a.e (to_byte_end a.e) (omega arith) (omega arith)) in
    rw (← v, lt-ltb _ _ c.if-rest-gt0.true)

pub returns-else-rest-gt0 : goal.returns-else-rest-gt0
unfolding after_end
returns-else-rest-gt0 c =
    let a = c.args in
    let v : c.take-rest.result.value ≡ number a.s.now a.e (to_byte_end a.e) = ap (λ (t : Taken ℕ). t.value) (c.take-rest.ensures ∙ take_in a.s.now a.e (to_byte_end a.e) (omega arith) (omega arith)) in
    rw (← v, le-ltb _ _ c.if-rest-gt0.false)
