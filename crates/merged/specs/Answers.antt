-- What a merge answers. Assumes nothing.
use Rattle.std.specs.Prelude.{ℕ, Result, Ok, Err}
use Rattle.refusals.specs.declared.Refusal.{Refusal}
use Rattle.refusals.specs.Refusals.{number}
use Rattle.merged.specs.declared.Summary.{Summary}

-- a refusal's number, or what an accepted merge counts
pub data Answer : Type 0 where
  Refused : ℕ → Answer
  Merged : Summary → Answer

-- the answer that a result is
abbrev pub told : Result Summary Refusal → Answer
told (Ok s) = Merged s
told (Err r) = Refused (number r)
