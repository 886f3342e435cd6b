-- The facts as a table of 324 numbers, and back. Assumes nothing.
use Rattle.std.specs.Prelude.{Bool, not, List, ℕ, ◌+◌, ◌*◌, min, eqb, get_or}
use Rattle.text.specs.Reading.{pick}
use Rattle.index.specs.Index.{listed}
use Rattle.merged.specs.Facts.{Tie, untied, tied, pinned, Given, silent, whole, named, undeclared, FileFact, SourceFact, Facts}

-- number j of file f, and number i of source j
unfoldable pub file_number : List ℕ → ℕ → ℕ → ℕ
file_number t f j = get_or t (4 + (6 * f + j)) 0

unfoldable pub source_number : List ℕ → ℕ → ℕ → ℕ
source_number t j i = get_or t (196 + (4 * j + i)) 0

-- 1 tied, 2 pinned, else untied
unfoldable pub tie_of : ℕ → Tie
tie_of n = pick (eqb n 1) tied (pick (eqb n 2) pinned untied)

-- 1 whole, 2 named, 3 undeclared, else silent
unfoldable pub given_of : ℕ → ℕ → Given
given_of n m = pick (eqb n 1) (whole (record { 0 = m })) (pick (eqb n 2) (named (record { 0 = m })) (pick (eqb n 3) undeclared silent))

unfoldable pub is_set : ℕ → Bool
is_set n = not (eqb n 0)

-- of a file: its entry, tie, base machine, container flag, claim, and whether it has a snapshot
unfoldable pub file_by : List ℕ → ℕ → FileFact
file_by t f =
    record {
      entry = file_number t f 0;
      tie = tie_of (file_number t f 1);
      base = record { 0 = file_number t f 2 };
      container = is_set (file_number t f 3);
      claim = file_number t f 4;
      recorded = is_set (file_number t f 5);
    }

-- of a source: its file, id, and what is said of its machine in two numbers
unfoldable pub source_by : List ℕ → ℕ → SourceFact
source_by t j = record { file = source_number t j 0; id = source_number t j 1; given = given_of (source_number t j 2) (source_number t j 3) }

-- how many files and sources a table holds
unfoldable pub files_in : List ℕ → ℕ
files_in t = min 32 (get_or t 0 0)

unfoldable pub sources_held : List ℕ → ℕ
sources_held t = min 32 (get_or t 1 0)

-- the table: the numbers of files, sources, entries and names; then 32 files, then 32 sources
unfoldable pub facts_by : List ℕ → Facts
facts_by t = record { files = listed (file_by t) 0 (files_in t); sources = listed (source_by t) 0 (sources_held t); entries = get_or t 2 0; names = get_or t 3 0 }
