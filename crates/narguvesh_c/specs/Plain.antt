-- A merge's answer as plain numbers: the number that is returned, and the four numbers of the summary. Assumes nothing.
use Rattle.std.specs.Prelude.{List, [], ◌∷◌, ℕ, replicate, Option, None, Some}
use Rattle.numbers.specs.declared.Clock.{Clock}
use Rattle.merged.specs.declared.Summary.{Summary}
use Rattle.merged.specs.Answers.{Answer, Refused, Merged}

-- what is told of a sheet without files: 2^32 - 1, which is no clock's number
abbrev pub untraced : ℕ
untraced = 0xffffffff

-- the refusal's number; 0 of an accepted merge
unfoldable pub number_of : Answer → ℕ
number_of (Refused n) = n
number_of (Merged s) = 0

-- the trace-time clock's number
unfoldable pub clock_of : Option Clock → ℕ
clock_of None = untraced
clock_of (Some c) = c.0

-- files, machines, events and the trace-time clock
unfoldable pub counts_of : Summary → List ℕ
counts_of s = s.files ∷ s.machines ∷ s.events ∷ clock_of s.trace ∷ []

-- what an accepted merge counts; zeros of a refusal
unfoldable pub summary_of : Answer → List ℕ
summary_of (Refused n) = replicate 4 0
summary_of (Merged s) = counts_of s

-- the events of an answer
unfoldable pub events_in : Answer → ℕ
events_in (Refused n) = 0
events_in (Merged s) = s.events
