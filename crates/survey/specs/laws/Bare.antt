-- An array with nothing in it. Assumes nothing.
use Rattle.std.specs.Prelude.{◌≡◌, ℕ, ◌+◌}
use Rattle.text.specs.Reading.{Text, peek}
use Rattle.text.specs.Class.{skip}

-- it stands at p and ends at e, and nothing but whitespace is between its brackets
pub record Bare (s : Text) (p e : ℕ) : Type 0 where
  pub opens : peek s p ≡ 91
  pub closes : peek s (skip s (p + 1)) ≡ 93
  pub past : e ≡ skip s (p + 1) + 1
