-- Which entry of an index a file names: the entry of a path, the entry that each entry cites, and the one that `trace_time` cites. Assumes nothing.
use Rattle.std.specs.Prelude.{List, ℕ, eqb, get_or}
use Rattle.text.specs.Reading.{Text, pick}
use Rattle.manifest.specs.Rows.{Manifest, first_or, holds, entries}
use Rattle.manifest.specs.Rules.{has_path}
use Rattle.index.specs.Index.{text_at, col_of, listed, manifest_of}

-- which entry has a path: the first one that has it; 32 if none has
unfoldable pub entry_of : Manifest → Text → ℕ
entry_of m t = first_or 32 (holds (has_path t)) (entries m) 0

-- which entry the file at p names; 32 if it names none, or if p is 0
unfoldable pub entry_cited : Text → List ℕ → ℕ → ℕ
entry_cited s ix p = pick (eqb p 0) 32 (entry_of (manifest_of s ix) (text_at s p))

-- which entry the `file` of the `sync_to` of entry i names; 32 if it names none, or if there is no such `file`
abbrev pub cited_by : Text → List ℕ → ℕ → ℕ
cited_by s ix i = entry_cited s ix (col_of ix i 8)

-- of entries 0 to 31. (Past the last entry an index has no `file`)
unfoldable pub cites_of : Text → List ℕ → List ℕ
cites_of s ix = listed (cited_by s ix) 0 32

-- which entry the `file` of `trace_time` names; 32 if it names none, or if there is no such `file`
abbrev pub trace_cited : Text → List ℕ → ℕ
trace_cited s ix = entry_cited s ix (get_or ix 3 0)
