-- The manifest's bytes: refusals 1 to 24 in their order, and the meaning. Assumes nothing.
use Rattle.std.specs.Prelude.{Bool, ℕ, ◌+◌, eqb, ltb, length}
use Rattle.text.specs.Reading.{Text, Out, done, bad, deep, pick, part}
use Rattle.text.specs.Class.{skip}
use Rattle.grammar.specs.Tree.{Tree, same}
use Rattle.grammar.specs.Document.{read}
use Rattle.manifest.specs.Names.{bytes}
use Rattle.manifest.specs.Rules.{refusal}
use Rattle.manifest.specs.Meaning.{Meaning, nothing_said, meaning}

-- "Manifest and sheet: at most 65,536 bytes each"
abbrev pub most_bytes : ℕ
most_bytes = 65536

-- "the 20 bytes `{"perfetto_manifest"`"
abbrev pub start : Text
start = bytes "{\"perfetto_manifest\""

-- "A non-empty manifest, after leading whitespace, starts with the 20 bytes .., literally"
unfoldable pub starts : Text → Bool
starts s = same (part s (skip s 0) (skip s 0 + 20)) start

-- 3 or 4, as the reader says: it stops at whichever byte comes first. A text that is read is judged from 5 on
unfoldable pub refusal_in : Out Tree → ℕ
refusal_in (done t j) = refusal t
refusal_in (bad p) = 3
refusal_in (deep p) = 4

-- THE REFUSAL of a manifest's bytes; 0 if it is accepted. No bytes are no manifest. 1: manifest too long. 2: start bytes absent
unfoldable pub refusal_of : Text → ℕ
refusal_of s =
    pick (eqb (length s) 0) 0
    (pick (ltb most_bytes (length s)) 1
    (pick (starts s) (refusal_in (read s)) 2))

unfoldable pub meaning_in : Out Tree → Meaning
meaning_in (done t j) = meaning t
meaning_in (bad p) = nothing_said
meaning_in (deep p) = nothing_said

-- THE MEANING of a manifest's bytes; nothing is said by a refused one, and by none
unfoldable pub meaning_of : Text → Meaning
meaning_of s = pick (eqb (refusal_of s) 0) (meaning_in (read s)) nothing_said
