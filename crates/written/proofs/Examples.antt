-- Worked examples, by computing: the lines that document 01 names, and numbers where the count of digits changes and at the ends of their range. Assumes nothing.
use Rattle.std.specs.Prelude.{◌≡◌, refl, [], ◌∷◌, ◌++◌, pos, negsuc, None, Some}
use Prim.Native.String.{String}
use Rattle.text.specs.Reading.{Text, pick}
use Rattle.manifest.specs.Names.{bytes}
use Rattle.merged.specs.Answers.{Refused, Merged}
use Rattle.written.specs.Written.{digits_in, decimal, signed, line_feed, trace_text, first_line, event_line, events_of, event_lines, lines_of}

computed : Unit {0}
unfolding pick digits_in decimal signed trace_text first_line event_line events_of event_lines lines_of
computed = tt

-- a text and a line feed
abbrev line : String → Text
line s = bytes s ++ line_feed

-- ---- document 01

-- "it writes exactly two lines, `ok files 1 machines 1 trace 5` and `0 at 5 graph 1 steps 0`"
accepted : first_line (Merged (record { files = 1; machines = 1; events = 1; trace = Some (record { 0 = 5 }) })) ≡ line "ok files 1 machines 1 trace 5"
unfolding computed
accepted = refl

placed : event_line 0 (pos 5) 1 0 ≡ line "0 at 5 graph 1 steps 0"
unfolding computed
placed = refl

-- "Otherwise `refused N` alone": a sheet of no bytes
refused : first_line (Refused 25) ≡ line "refused 25"
unfolding computed
refused = refl

-- "or `0 dropped N`": kinds 4 to 6 are the drops 1 to 3
dropped : event_line 0 (pos 0) 6 0 ≡ line "0 dropped 3"
unfolding computed
dropped = refl

unrelated : event_line 12 (pos 0) 4 0 ≡ line "12 dropped 1"
unfolding computed
unrelated = refl

-- "with no file the trace is `-`"
without_files : first_line (Merged (record { files = 0; machines = 1; events = 0; trace = None })) ≡ line "ok files 0 machines 1 trace -"
unfolding computed
without_files = refl

-- document 000's example: an app_log event reading 7, in graph 3 by 2 steps
app_log : event_line 0 (pos 250000007) 3 2 ≡ line "0 at 250000007 graph 3 steps 2"
unfolding computed
app_log = refl

-- the two lines, and nothing else
two_lines : lines_of (Merged (record { files = 1; machines = 1; events = 1; trace = Some (record { 0 = 5 }) })) (pos 5 ∷ []) (1 ∷ []) (0 ∷ []) ≡ line "ok files 1 machines 1 trace 5" ++ line "0 at 5 graph 1 steps 0"
unfolding computed
two_lines = refl

-- a refusal alone, whatever the memories hold
refused_alone : lines_of (Refused 25) (pos 5 ∷ []) (1 ∷ []) (0 ∷ []) ≡ line "refused 25"
unfolding computed
refused_alone = refl

-- ---- numbers

-- the ends of a time's range
greatest : event_line 0 (pos 9223372036854775807) 1 223 ≡ line "0 at 9223372036854775807 graph 1 steps 223"
unfolding computed
greatest = refl

least : signed (negsuc 9223372036854775807) ≡ bytes "-9223372036854775808"
unfolding computed
least = refl

-- where the count of digits changes
zero_one_digit : decimal 0 ≡ bytes "0"
unfolding computed
zero_one_digit = refl

nine : decimal 9 ≡ bytes "9"
unfolding computed
nine = refl

ten : decimal 10 ≡ bytes "10"
unfolding computed
ten = refl

ninety_nine : decimal 99 ≡ bytes "99"
unfolding computed
ninety_nine = refl

hundred : decimal 100 ≡ bytes "100"
unfolding computed
hundred = refl

-- the greatest number of 64 bits
all_ones : decimal 18446744073709551615 ≡ bytes "18446744073709551615"
unfolding computed
all_ones = refl

below_zero : signed (negsuc 0) ≡ bytes "-1"
unfolding computed
below_zero = refl
