-- What is told of a manifest and a sheet together. Assumes nothing.
use Rattle.std.specs.Prelude.{ℕ, Result, Ok, Err}
use Rattle.refusals.specs.declared.Refusal.{Refusal}
use Rattle.refusals.specs.Refusals.{number}
use Rattle.placed.specs.declared.Known.{Known}

-- a refusal's number, or what is known
pub data Told : Type 0 where
  Refused : ℕ → Told
  Accepted : Known → Told

-- what a result tells
abbrev pub as_told : Result Known Refusal → Told
as_told (Ok k) = Accepted k
as_told (Err r) = Refused (number r)
