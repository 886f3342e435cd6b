-- Promises speak of what is known of a manifest and a sheet through `as_told`: two results that are told alike are one. By the way back. Assumes nothing.
use Rattle.std.specs.Prelude.{◌≡◌, Option, Some, option_map, Result, Ok, Err}
use Rattle.std.proofs.Common.{refl, ap}
use Rattle.refusals.specs.declared.Refusal.{Refusal}
use Rattle.refusals.proofs.Theorems.{named, named_by_number, back_tells}
use Rattle.placed.specs.declared.Known.{Known}
use Rattle.placed.specs.Told.{Told, Refused, Accepted, as_told}

abbrev result_of : Told → Option (Result Known Refusal)
result_of (Refused n) = option_map Err (named n)
result_of (Accepted k) = Some (Ok k)

result_known : (a : Result Known Refusal) → result_of (as_told a) ≡ Some a
result_known (Ok k) = refl
result_known (Err r) = ap (option_map Err) (named_by_number r)

-- whatever meets a promise of `known` or `settled` on the same bytes is one result
pub as_told_tells : (a b : Result Known Refusal) → as_told a ≡ as_told b → a ≡ b
as_told_tells = back_tells as_told result_of result_known
