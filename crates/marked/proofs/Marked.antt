-- The marked examples of document 01, all of them, proved together as one statement over a list; with them the two unmarked ones that stand between them,
-- and drop 2 in a merge. Each comes from its computation in laws/. Assumes nothing.
use Rattle.std.specs.Prelude.{List, [], ◌∷◌, ℕ, pos}
use Rattle.merged.specs.declared.Room.{Room}
use Rattle.marked.specs.Inputs.{no_manifest, example, on_the_phone, eight_less, too_low, lowest, no_bytes, sheet_00, sheet_7, sheet_past, pair, two_pairs, top, bottom}
use Rattle.marked.specs.Example.{Example, refuses_manifest, refuses_sheet, accepts, reads, goes, drops, forwards, backwards, outside, LongEnough, holds, All, none, also}
use Rattle.marked.proofs.laws.Conversions.{at_150, at_199, at_200, at_50, back_1105, both_ends, past_the_top}
use Rattle.marked.proofs.laws.Ends as ends
use Rattle.marked.proofs.laws.Merges.{counts, reads_00, refused_no_bytes, refused_too_low, lowest_accepted, example_accepted, phone_accepted, goes_7, goes_phone, written_less, written_past}

abbrev pub marked : List Example
marked =
    -- "Sheet `00` with no manifest: accepted, nothing in it"
    reads no_manifest sheet_00
    -- "A sheet of no bytes: 25"
    ∷ refuses_sheet no_bytes 25
    -- "List (100, 1000), (200, 1110): 150 gives 1050, 199 gives 1099, 200 gives 1110, 50 gives 950; backwards 1105 gives 205"
    ∷ forwards two_pairs (pos 150) (pos 1050)
    ∷ forwards two_pairs (pos 199) (pos 1099)
    ∷ forwards two_pairs (pos 200) (pos 1110)
    ∷ forwards two_pairs (pos 50) (pos 950)
    ∷ backwards two_pairs (pos 1105) (pos 205)
    -- "(2^63-1, 2^63-1) and t = -2^63 gives -2^63"
    ∷ forwards (pair top top ∷ []) bottom bottom
    -- "(0, 1) and 2^63-1: drop 2", as a conversion and in a merge
    ∷ outside (pair (pos 0) (pos 1) ∷ []) top 2
    ∷ drops no_manifest sheet_past 0 2
    -- "Offset -9223372036854775808: 23. -9223372036854775807: accepted"
    ∷ refuses_manifest too_low 23
    ∷ accepts lowest sheet_7 (counts 5)
    -- "an app_log event reading 7 goes 194, 11, 5: 250000007, graph 3, 2 steps"
    ∷ accepts example sheet_7 (counts 5)
    ∷ goes example sheet_7 0 194 (11 ∷ 5 ∷ []) (pos 250000007) 3 2
    -- "With `"file": "phone.pftrace"` in `trace_time`: graph 1, 1 step"
    ∷ accepts on_the_phone sheet_7 (counts 11)
    ∷ goes on_the_phone sheet_7 0 194 (11 ∷ []) (pos 250000007) 1 1
    -- "Then with offset -8: drop 3"
    ∷ drops eight_less sheet_7 0 3
    ∷ []

-- ALL OF THEM HOLD
pub all_marked : All holds marked
all_marked =
    also reads_00
    (also refused_no_bytes
    (also at_150
    (also at_199
    (also at_200
    (also at_50
    (also back_1105
    (also both_ends
    (also past_the_top
    (also written_past
    (also refused_too_low
    (also lowest_accepted
    (also example_accepted
    (also goes_7
    (also phone_accepted
    (also goes_phone
    (also written_less
    none))))))))))))))))

-- they speak of some memory: each sheet has lent memory that is long enough for it
pub some_room : (b : List ℕ) → (room : Room) × LongEnough b room
some_room = ends.some_room
