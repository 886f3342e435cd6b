-- The inputs of document 01's marked examples: manifests and sheets as bytes, lists of correspondences. Assumes nothing.
use Rattle.std.specs.Prelude.{List, [], ◌∷◌, ◌++◌, map, ℕ, ◌-◌, ◌^◌, eqb, ℤ, pos, neg_ℤ}
use Prim.Native.String.{String}
use Rattle.text.specs.Reading.{Text, pick}
use Rattle.whole.specs.Pairs.{Pair}
use Rattle.manifest.specs.Names.{bytes}

-- ---- manifests

-- no bytes are no manifest
abbrev pub no_manifest : Text
no_manifest = []

-- JSON with ' for the quote
abbrev pub json : String → Text
json s = map (λ b. pick (eqb b 39) 34 b) (bytes s)

-- document 000's example, without the line break after the first brace: with more in `trace_time`, and with this offset
abbrev pub asking : String → String → Text
asking more offset =
    json "{'perfetto_manifest': {\n'version': 1,\n'trace_time': {'clock': 'BOOTTIME'"
    ++ (json more
    ++ (json "},\n'files': [\n{'path': 'phone.pftrace', 'machine': {'name': 'phone'}},\n{'path': 'watch.pftrace', 'machine': {'name': 'watch'}},\n"
    ++ (json "{\n'path': 'app_log.json',\n'clocks': {\n'sync_to': {'file': 'phone.pftrace', 'clock': 'BOOTTIME'},\n'offset_ns': "
    ++ (json offset ++ json "\n}\n}\n]\n}\n}"))))

-- as document 000 has it
abbrev pub example : Text
example = asking "" "250000000"

-- "With `"file": "phone.pftrace"` in `trace_time`"; "Then with offset -8"
abbrev pub on_the_phone : Text
on_the_phone = asking ", 'file': 'phone.pftrace'" "250000000"

abbrev pub eight_less : Text
eight_less = asking ", 'file': 'phone.pftrace'" "-8"

-- the offset that is one too low, and the lowest
abbrev pub too_low : Text
too_low = asking "" "-9223372036854775808"

abbrev pub lowest : Text
lowest = asking "" "-9223372036854775807"

-- ---- sheets

-- a sheet of no bytes; sheet `00`
abbrev pub no_bytes : List ℕ
no_bytes = []

abbrev pub sheet_00 : List ℕ
sheet_00 = 0x00 ∷ []

-- files phone.pftrace, watch.pftrace and app_log.json without a claim (kind 1, then 12 bits and the path), a source of each with id 0 (kind 2, then 5
-- bits and 32), 469 bits together; then, in the last 3 bits of the last byte here, kind 4 of an event
abbrev pub three_files : List ℕ → List ℕ
three_files rest =
    0x20 ∷ 0x1a ∷ 0xe0 ∷ 0xd0 ∷ 0xde ∷ 0xdc ∷ 0xca ∷ 0x5c ∷ 0xe0 ∷ 0xcc ∷ 0xe8 ∷ 0xe4 ∷ 0xc2 ∷ 0xc6 ∷ 0xca ∷ 0x40 ∷ 0x35 ∷ 0xdd
    ∷ 0x85 ∷ 0xd1 ∷ 0x8d ∷ 0xa0 ∷ 0xb9 ∷ 0xc1 ∷ 0x99 ∷ 0xd1 ∷ 0xc9 ∷ 0x85 ∷ 0x8d ∷ 0x94 ∷ 0x80 ∷ 0x63 ∷ 0x0b ∷ 0x83 ∷ 0x82 ∷ 0xfb
    ∷ 0x63 ∷ 0x7b ∷ 0x39 ∷ 0x73 ∷ 0x53 ∷ 0x9b ∷ 0x7b ∷ 0x72 ∷ 0x00 ∷ 0x00 ∷ 0x00 ∷ 0x00 ∷ 0x02 ∷ 0x08 ∷ 0x00 ∷ 0x00 ∷ 0x00 ∷ 0x02
    ∷ 0x10 ∷ 0x00 ∷ 0x00 ∷ 0x00 ∷ 0x04 ∷ rest

-- the event is app_log's: source 2, clock 0, and it reads 7; then the end
abbrev pub sheet_7 : List ℕ
sheet_7 = three_files (0x10 ∷ 0x00 ∷ 0x00 ∷ 0x00 ∷ 0x00 ∷ 0x00 ∷ 0x00 ∷ 0x00 ∷ 0x07 ∷ 0x00 ∷ [])

-- the same with a second event, that reads 9
abbrev pub sheet_7_9 : List ℕ
sheet_7_9 =
    three_files
    (0x10 ∷ 0x00 ∷ 0x00 ∷ 0x00 ∷ 0x00 ∷ 0x00 ∷ 0x00 ∷ 0x00 ∷ 0x07 ∷ 0x82 ∷ 0x00 ∷ 0x00 ∷ 0x00 ∷ 0x00 ∷ 0x00 ∷ 0x00 ∷ 0x00 ∷ 0x01 ∷ 0x20 ∷ [])

-- file `a`, which claims BOOTTIME (clock 6), and a source of it; a snapshot in which MONOTONIC (clock 3) reads 0 and BOOTTIME 1; an event on MONOTONIC
-- that reads 2^63-1
abbrev pub sheet_past : List ℕ
sheet_past =
    0x2c ∷ 0x02 ∷ 0xc2 ∷ 0x80 ∷ 0x00 ∷ 0x00 ∷ 0x00 ∷ 0x00 ∷ 0xc0 ∷ 0xc0 ∷ 0x00 ∷ 0x00 ∷ 0x00 ∷ 0x00 ∷ 0x00 ∷ 0x00 ∷ 0x00 ∷ 0x30
    ∷ 0x00 ∷ 0x00 ∷ 0x00 ∷ 0x00 ∷ 0x00 ∷ 0x00 ∷ 0x00 ∷ 0x0c ∷ 0x03 ∷ 0x7f ∷ 0xff ∷ 0xff ∷ 0xff ∷ 0xff ∷ 0xff ∷ 0xff ∷ 0xff ∷ 0x00
    ∷ []

-- ---- lists of correspondences

abbrev pub pair : ℤ → ℤ → Pair
pair x y = record { x = x; y = y }

-- "List (100, 1000), (200, 1110)"
abbrev pub two_pairs : List Pair
two_pairs = pair (pos 100) (pos 1000) ∷ pair (pos 200) (pos 1110) ∷ []

-- 2^63-1 and -2^63
abbrev pub top : ℤ
top = pos (2 ^ 63 - 1)

abbrev pub bottom : ℤ
bottom = neg_ℤ (pos (2 ^ 63))
