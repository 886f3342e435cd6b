-- The promise of `read` speaks of its result through `told`: two results that are told alike are one. By the way back. Assumes nothing.
use Rattle.std.specs.Prelude.{◌≡◌, Option, Some, option_map, Result, Ok, Err}
use Rattle.std.proofs.Common.{refl, ap}
use Rattle.refusals.specs.declared.Refusal.{Refusal}
use Rattle.refusals.proofs.Theorems.{named, named_by_number, back_tells}
use Rattle.sheet.specs.declared.Table.{Table}
use Rattle.sheet.specs.Sheets.{Sheet, Refused, Listed, told}

abbrev result_of : Sheet → Option (Result Table Refusal)
result_of (Refused n) = option_map Err (named n)
result_of (Listed t) = Some (Ok t)

result_known : (a : Result Table Refusal) → result_of (told a) ≡ Some a
result_known (Ok t) = refl
result_known (Err r) = ap (option_map Err) (named_by_number r)

-- whatever meets the promise of `read` on the same bytes is one result
pub told_tells : (a b : Result Table Refusal) → told a ≡ told b → a ≡ b
told_tells = back_tells told result_of result_known
