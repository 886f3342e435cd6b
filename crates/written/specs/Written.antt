-- The lines of document 01: "it writes exactly two lines, `ok files 1 machines 1 trace 5` and `0 at 5 graph 1 steps 0`. Otherwise `refused N`
-- alone, or `0 dropped N`; with no file the trace is `-`". As bytes; each line ends in one line feed. Assumes nothing.
use Rattle.std.specs.Prelude.{List, [], ◌∷◌, ◌++◌, ℕ, zero, suc, ◌+◌, ◌-◌, ◌*◌, ◌/◌, ◌%◌, ltb, leb, ℤ, pos, negsuc, get_or, Option, None, Some, Result, Ok, Err}
use Rattle.text.specs.Reading.{pick}
use Rattle.manifest.specs.Names.{bytes}
use Rattle.numbers.specs.declared.Clock.{Clock}
use Rattle.merged.specs.declared.Summary.{Summary}
use Rattle.merged.specs.Answers.{Answer, Refused, Merged}

-- the digits of a number below 10^k, the most significant first, without zeros in front
unfoldable pub digits_in : ℕ → ℕ → List ℕ
digits_in zero n = []
digits_in (suc k) n = pick (ltb n 10) ((48 + n) ∷ []) (digits_in k (n / 10) ++ ((48 + n % 10) ∷ []))

-- all numbers here are below 2^64, which is below 10^20
unfoldable pub decimal : ℕ → List ℕ
decimal n = digits_in 20 n

unfoldable pub signed : ℤ → List ℕ
signed (pos n) = decimal n
signed (negsuc n) = 45 ∷ decimal (suc n)

abbrev pub line_feed : List ℕ
line_feed = 10 ∷ []

unfoldable pub trace_text : Option Clock → List ℕ
trace_text None = bytes "-"
trace_text (Some c) = decimal c.0

-- the answer that a result is whose error is a number
abbrev pub numbered : Result Summary ℕ → Answer
numbered (Ok s) = Merged s
numbered (Err n) = Refused n

-- the first line
unfoldable pub first_line : Answer → List ℕ
first_line (Refused n) = bytes "refused " ++ (decimal n ++ line_feed)
first_line (Merged s) =
    bytes "ok files " ++ (decimal s.files ++ (bytes " machines " ++ (decimal s.machines ++ (bytes " trace " ++ (trace_text s.trace ++ line_feed)))))

-- the line of event k: kinds 1 to 3 are the graph it was placed in, 4 to 6 the drops 1 to 3
unfoldable pub event_line : ℕ → ℤ → ℕ → ℕ → List ℕ
event_line k time kind steps =
    decimal k
    ++ (pick (ltb kind 4)
    (bytes " at " ++ (signed time ++ (bytes " graph " ++ (decimal kind ++ (bytes " steps " ++ decimal steps)))))
    (bytes " dropped " ++ decimal (kind - 3))
    ++ line_feed)

-- ---- all lines

-- how many events an answer tells of
unfoldable pub events_of : Answer → ℕ
events_of (Refused n) = 0
events_of (Merged s) = s.events

-- the lines of the first events, in order; zeros stand past the end of a list
unfoldable pub event_lines : ℕ → List ℤ → List ℕ → List ℕ → List ℕ
event_lines zero times kinds steps = []
event_lines (suc k) times kinds steps = event_lines k times kinds steps ++ event_line k (get_or times k (pos 0)) (get_or kinds k 0) (get_or steps k 0)

-- the first line, then one for each event; "`refused N` alone"
unfoldable pub lines_of : Answer → List ℤ → List ℕ → List ℕ → List ℕ
lines_of a times kinds steps = first_line a ++ event_lines (events_of a) times kinds steps

-- all of them where the memory has 96 bytes for each line, else none
unfoldable pub lines_in : ℕ → Answer → List ℤ → List ℕ → List ℕ → List ℕ
lines_in room a times kinds steps = pick (leb (96 * suc (events_of a)) room) (lines_of a times kinds steps) []
