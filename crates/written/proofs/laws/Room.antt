-- How long the lines are at most, and that a line is read back from the memory that holds it: for those who write it out. Assumes nothing.
use Rattle.std.specs.Prelude.{◌≡◌, Bool, true, false, List, ◌++◌, ℕ, ◌+◌, ◌-◌, ◌^◌, ◌≤◌, ◌<◌, ltb, ℤ, length, take, replicate, Option, None, Some}
use Rattle.std.proofs.Common.{ap, arith, length-append, SFits}
use Rattle.std.proofs.lemmas.List.{length-replicate}
use Rattle.std.proofs.Math.Seq.{take-append_seam}
use Rattle.std.specs.Int.{w64}
use Rattle.text.specs.Reading.{pick}
use Rattle.manifest.specs.Names.{bytes}
use Rattle.numbers.specs.declared.Clock.{Clock}
use Rattle.merged.specs.declared.Summary.{Summary}
use Rattle.merged.specs.Answers.{Refused, Merged}
use Rattle.merged.specs.Merged.{padded}
use Rattle.written.specs.Written.{decimal, signed, line_feed, trace_text, first_line, event_line}
use Rattle.written.proofs.laws.Decimal.{decimal_few}
use Rattle.written.proofs.laws.Signed.{signed_few}

-- ---- a memory of n bytes that holds a line and then zeros

pub padded_fits : (n : ℕ) (w out : List ℕ) → length out ≡ n → out ≡ padded 0 n w → length w ≤ n
padded_fits n w out l e =
    omega (arith, ap length e, length-append w (replicate (n - length w) 0), length-replicate {A = ℕ} (n - length w) 0)

pub padded_taken : (n : ℕ) (w : List ℕ) → take (length w) (padded 0 n w) ≡ w
padded_taken n w = take-append_seam w (replicate (n - length w) 0)

-- ---- the first line

pub refused_few : (n : ℕ) → n < 256 → length (first_line (Refused n)) ≤ 12
unfolding first_line
refused_few n h = simp length-append (omega (arith, decimal_few 2 n (omega arith)))

-- a trace-time clock is a number of 16 bits
abbrev pub Short : Option Clock → Type 0
Short None = Unit
Short (Some c) = c.0 < 65536

trace_few : (t : Option Clock) → Short t → length (trace_text t) ≤ 5
unfolding trace_text
trace_few None h = omega arith
trace_few (Some c) h = decimal_few 4 c.0 (omega arith)

pub merged_few : (s : Summary) → s.files < 256 → s.machines < 256 → Short s.trace → length (first_line (Merged s)) ≤ 38
unfolding first_line
merged_few s f m t =
    simp length-append (omega (arith, decimal_few 2 s.files (omega arith), decimal_few 2 s.machines (omega arith), trace_few s.trace t))

-- ---- the line of an event

pub event_few : (k : ℕ) (time : ℤ) (kind steps : ℕ) → k < 2 ^ 64 → SFits w64 time → kind < 256 → steps < 65536 → length (event_line k time kind steps) ≤ 67
unfolding event_line pick
event_few k time kind steps a f g h = go (ltb kind 4)
  where
    go : (b : Bool)
        → length
        (decimal k
        ++ (pick b
        (bytes " at " ++ (signed time ++ (bytes " graph " ++ (decimal kind ++ (bytes " steps " ++ decimal steps)))))
        (bytes " dropped " ++ decimal (kind - 3))
        ++ line_feed))
        ≤ 67
    go true =
        simp length-append
        (omega (arith, decimal_few 19 k (omega arith), signed_few time f, decimal_few 2 kind (omega arith), decimal_few 4 steps (omega arith)))
    go false = simp length-append (omega (arith, decimal_few 19 k (omega arith), decimal_few 2 (kind - 3) (omega arith)))
