-- Where a text stands in the input. Assumes nothing.
use Rattle.std.specs.Prelude.{ℕ, ◌≤◌, ◌<◌}
use Rattle.texts.specs.declared.Frame.{Frame}
use Rattle.texts.specs.declared.Frame.TheVariants.{Text, Cut}

-- a text that comes after position `at` lies within the n bytes of the input
abbrev pub Inside : ℕ → ℕ → Frame → Type 0
Inside n at (Text from to) = (at < to) × (from ≤ to) × (to ≤ n)
Inside n at Cut = Unit {0}
