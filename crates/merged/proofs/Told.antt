-- The promise of the merge speaks of its result through `told`: two results that are told alike are one. By the way back. Assumes nothing.
use Rattle.std.specs.Prelude.{◌≡◌, Option, Some, option_map, Result, Ok, Err}
use Rattle.std.proofs.Common.{refl, ap}
use Rattle.refusals.specs.declared.Refusal.{Refusal}
use Rattle.refusals.proofs.Theorems.{named, named_by_number, back_tells}
use Rattle.merged.specs.declared.Summary.{Summary}
use Rattle.merged.specs.Answers.{Answer, Refused, Merged, told}

abbrev result_of : Answer → Option (Result Summary Refusal)
result_of (Refused n) = option_map Err (named n)
result_of (Merged s) = Some (Ok s)

result_known : (a : Result Summary Refusal) → result_of (told a) ≡ Some a
result_known (Ok s) = refl
result_known (Err r) = ap (option_map Err) (named_by_number r)

-- whatever meets the promise of `merge` on the same bytes and lent memory is one result
pub told_tells : (a b : Result Summary Refusal) → told a ≡ told b → a ≡ b
told_tells = back_tells told result_of result_known
