-- The machines: of each source, and how many there are. Assumes nothing.
use Rattle.std.specs.Prelude.{Bool, true, false, not, ◌&&◌, List, [], ◌∷◌, map, ℕ, suc, ◌+◌, eqb, leb, length}
use Rattle.text.specs.Reading.{pick}
use Rattle.manifest.specs.Rows.{first_or}
use Rattle.merged.specs.Facts.{Given, silent, whole, named, undeclared, SourceFact, Facts}

-- how many of the sources belong to file f
unfoldable pub sources_in : ℕ → List SourceFact → ℕ
sources_in f [] = 0
sources_in f (x ∷ l) = pick (eqb x.file f) (suc (sources_in f l)) (sources_in f l)

-- nothing is said of a source's machine
unfoldable pub is_silent : Given → Bool
is_silent silent = true
is_silent (whole m) = false
is_silent (named m) = false
is_silent undeclared = false

-- each number once, where it first stands
unfoldable pub without : ℕ → List ℕ → List ℕ
without n [] = []
without n (k ∷ l) = pick (eqb k n) (without n l) (k ∷ without n l)

unfoldable pub distinct : List ℕ → List ℕ
distinct [] = []
distinct (n ∷ l) = n ∷ without n (distinct l)

module _ (k : Facts) where
  -- "with several, id 0 is the host and another id is the machine of that id": a source whose machine is that of its id
  unfoldable pub by_id : SourceFact → Bool
  by_id x = is_silent x.given && leb 2 (sources_in x.file k.sources) && not (eqb x.id 0)

  unfoldable pub ids_by : List SourceFact → List ℕ
  ids_by [] = []
  ids_by (x ∷ l) = pick (by_id x) (x.id ∷ ids_by l) (ids_by l)

  -- "then unnamed ids, as the rule below yields them, in source order", "the same in all such files"
  unfoldable pub unnamed : List ℕ
  unnamed = distinct (ids_by k.sources)

  -- "Machine 0 is the host; then each `name` ..; then unnamed ids": how many machines there are
  unfoldable pub machine_count : ℕ
  machine_count = 1 + (k.names + length unnamed)

  -- the machine of an unnamed id
  unfoldable pub unnamed_machine : ℕ → ℕ
  unnamed_machine id = first_or 0 (eqb id) unnamed (1 + k.names)

  -- "A source's machine: the `machine` name; or the name declared for its id; or else, if the file has one source, the host; with several, id 0 is
  -- the host and another id is the machine of that id". (34 leaves no undeclared id)
  unfoldable pub machine_by : Given → SourceFact → ℕ
  machine_by silent x = pick (by_id x) (unnamed_machine x.id) 0
  machine_by (whole m) x = m.0
  machine_by (named m) x = m.0
  machine_by undeclared x = 0

  unfoldable pub machine_of : SourceFact → ℕ
  machine_of x = machine_by x.given x

  -- of each source, in order
  unfoldable pub machines_of : List ℕ
  machines_of = map machine_of k.sources
