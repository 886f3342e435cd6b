-- The promise of `step_over` speaks of its result through `told fault_number`: two results that are told alike are one. By the way back. Assumes nothing.
use Rattle.std.specs.Prelude.{◌≡◌, Option, Some, None, Result, Ok, Err}
use Rattle.std.proofs.Common.{refl, ap}
use Rattle.refusals.specs.declared.Refusal.{Refusal}
use Rattle.refusals.proofs.Theorems.{named, named_by_number, back_tells}
use Rattle.records.specs.declared.State.{State}
use Rattle.records.specs.declared.Fault.{Fault}
use Rattle.records.specs.declared.Fault.TheVariants.{Refused, NoState}
use Rattle.records.specs.Faults.{Step, Next, End, Bad, told}
use Rattle.records.specs.States.{fault_number}

abbrev fault_of : Option Refusal → Fault
fault_of None = NoState
fault_of (Some r) = Refused r

abbrev result_of : Step → Option (Result (Option State) Fault)
result_of (Next s) = Some (Ok (Some s))
result_of End = Some (Ok None)
result_of (Bad n) = Some (Err (fault_of (named n)))

result_known : (a : Result (Option State) Fault) → result_of (told fault_number a) ≡ Some a
result_known (Ok (Some s)) = refl
result_known (Ok None) = refl
result_known (Err (Refused r)) = ap (λ o. Some (Err (fault_of o))) (named_by_number r)
result_known (Err NoState) = refl

-- whatever meets the promise of `step_over` on the same bytes and state is one result
pub told_tells : (a b : Result (Option State) Fault) → told fault_number a ≡ told fault_number b → a ≡ b
told_tells = back_tells (told fault_number) result_of result_known
