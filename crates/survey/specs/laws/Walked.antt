-- What the quick walk over a manifest tells where it is clear: the words of the private contracts. A member is told with its place. Assumes nothing.
use Rattle.std.specs.Prelude.{◌≡◌, Bool, true, false, List, [], ◌∷◌, ℕ, ◌+◌, ◌-◌, ◌≤◌, ◌<◌, length, get_or, set, replicate}
use Rattle.text.specs.Reading.{Text, Out, done, Reader, next, pick, peek}
use Rattle.text.specs.Class.{skip}
use Rattle.grammar.specs.Tree.{Tree, obj, Members, same}
use Rattle.grammar.specs.Document.{many, name, value}
use Rattle.manifest.proofs.laws.Judge.{tag, judged}
use Rattle.manifest.proofs.laws.Table.{kind_at}
use Rattle.manifest.specs.Names.{bytes}
use Rattle.manifest.specs.Statements.{All}
use Rattle.outline.specs.Outline.{versions_at}
use Rattle.members.specs.laws.Flaw.{sought}
use Rattle.table.specs.Table.{line_at, wanted_of, value_kind, first_line}
use Rattle.table.specs.laws.Looking.{LineOf}
use Rattle.members.specs.Members.{member_refusal_at}
use Rattle.index.specs.Index.{column, items_of, rows, item_row, block, index_of, too_many}
use Rattle.index.proofs.laws.Put.{Put}
use Rattle.fills.specs.laws.Blank.{Blank}
use Rattle.survey.specs.Survey.{survey_of, surveyed}

-- ---- readers that tell places

-- a member: its name, and where its value stands
abbrev pub Spot : Type 0
Spot = ℕ × Tree

unfoldable pub spotted : ℕ → Tree → ℕ → Out Spot
spotted p t n = done (p, t) n

-- an item, with its place
unfoldable pub spot : ℕ → Reader Spot
spot l s i = next (value l s i) (spotted i)

unfoldable pub placing : Text → Spot → ℕ → Out (Text × Spot)
placing k x n = done (k, x) n

unfoldable pub valued : ℕ → Text → Text → ℕ → Out (Text × Spot)
valued l s k j = next (spot l s (skip s j)) (placing k)

-- a member, with its value's place
unfoldable pub placed : ℕ → Reader (Text × Spot)
placed l s i = next (name s i) (valued l s)

-- the values of the members with a name
unfoldable pub under : Text → List (Text × Spot) → List Spot
under n [] = []
under n (m ∷ ms) = pick (same m.0 n) (m.1 ∷ under n ms) (under n ms)

-- ---- a value

-- no flaw is in a value of kind k
pub record Fine (k : ℕ) (t : Tree) : Type 0 where
  pub none : (b asked : Bool) → judged (sought b) asked (kind_at k) t ≡ false

-- a value with l levels stands at p, ends at e and has the JSON type of kind k
pub record Fits (k l : ℕ) (s : Text) (p e : ℕ) : Type 0 where
  pub tree : Tree
  pub reads : value l s p ≡ done tree e
  pub typed : (k ≡ 2 → ⊥) → tag tree ≡ wanted_of k

-- ---- the members of an object

-- a member from i on, of an object of kind o: the line about it, and its value from v to e
pub record Entered (o l : ℕ) (s : Text) (i line v e : ℕ) : Type 0 where
  pub key : Text
  pub colon : ℕ
  pub named : name s i ≡ done key colon
  pub place : v ≡ skip s colon
  pub about : LineOf o key line
  pub fits : Fits (value_kind line) l s v e

-- the number of a line's column in the row of an object of kind o
abbrev pub slot : ℕ → ℕ → ℕ
slot o j = j - first_line o + 1

-- the value at v was noted in its line's column, which was free
pub record Noted (o line v : ℕ) (old new : List ℕ) : Type 0 where
  pub other : (line < 20 → ⊥) → new ≡ old
  pub free : line < 20 → get_or old (slot o line) 0 ≡ 0
  pub put : line < 20 → new ≡ set old (slot o line) v

-- no column that refusal 9 asks for is free
pub record Complete (o : ℕ) (row : List ℕ) : Type 0 where
  pub there : (j : ℕ) → j < 20 → (line_at j).place ≡ o → (line_at j).asked ≡ true → get_or row (slot o j) 0 ≡ 0 → ⊥

-- the values under a name that are told by one column: none, or one of kind k
pub data Held (k : ℕ) : ℕ → List Spot → Type 0 where
  free : Held k 0 []
  held : {v : ℕ} {t : Tree} → (v ≡ 0 → ⊥) → ((k ≡ 2 → ⊥) → tag t ≡ wanted_of k) → Held k v ((v, t) ∷ [])

-- an object of kind o stands at p; its end and its columns are in a row
pub record Row (o l : ℕ) (s : Text) (p : ℕ) (row : List ℕ) : Type 0 where
  pub opens : peek s p ≡ 123
  pub members : List (Text × Spot)
  pub reads : many (placed l) 125 s (p + 1) ≡ done members (get_or row 0 0)
  pub columns : (j : ℕ) → j < 20 → (line_at j).place ≡ o → Held (line_at j).kind (get_or row (slot o j) 0) (under (line_at j).name members)
  pub complete : Complete o row

-- an object of kind o stands at p with its row; or p is 0, there is none, and all columns are 0
pub data Inner (o l : ℕ) (s : Text) : ℕ → List ℕ → Type 0 where
  gone : Inner o l s 0 (replicate 5 0)
  stood : {p : ℕ} {row : List ℕ} → (p ≡ 0 → ⊥) → Row o l s p row → Inner o l s p row

-- the row of an object that stands at p and ends at e is kept
pub record Kept (o l : ℕ) (s : Text) (p e : ℕ) (new : List ℕ) : Type 0 where
  pub row : Row o l s p new
  pub ends : get_or new 0 0 ≡ e

-- the same without its end, whatever was kept there before
abbrev pub RowAt : ℕ → ℕ → Text → ℕ → List ℕ → List ℕ → Type 0
RowAt o l s p old new = Row o l s p new

-- what is kept of `clocks`: its row, and behind it the columns of its `sync_to`
abbrev pub clock_numbers : List ℕ → List ℕ → List ℕ
clock_numbers own sync = get_or own 0 0 ∷ get_or own 1 0 ∷ get_or own 2 0 ∷ get_or own 3 0 ∷ get_or own 4 0 ∷ get_or sync 1 0 ∷ get_or sync 2 0 ∷ get_or sync 3 0 ∷ []

-- `clocks` stands at p and ends at e, and is kept
pub record Clocks (s : Text) (p e : ℕ) (new : List ℕ) : Type 0 where
  pub own : List ℕ
  pub sync : List ℕ
  pub row : Row 4 11 s p own
  pub ends : get_or own 0 0 ≡ e
  pub inside : Inner 3 10 s (get_or own 3 0) sync
  pub is : new ≡ clock_numbers own sync

abbrev pub ClocksAt : Text → ℕ → List ℕ → List ℕ → Type 0
ClocksAt s p old new = (e : ℕ) × Clocks s p e new

-- ---- the items of an array

-- an array stands at p and ends at e, and no flaw is in its items, of kind k
pub record Listed (k l : ℕ) (s : Text) (p e : ℕ) : Type 0 where
  pub opens : peek s p ≡ 91
  pub items : List Spot
  pub reads : many (spot l) 93 s (p + 1) ≡ done items e
  pub fine : All (λ x. Fine k x.1) items
  pub few : length items ≤ 32

-- the array at p is `machines`: how many items it has, and their rows, are put into the index from base on, where all was 0
pub record Machines (s : Text) (base p e : ℕ) (old new : List ℕ) : Type 0 where
  pub listed : Listed 5 11 s p e
  pub sized : length new ≡ length old
  pub put : Blank old base → Put old base (length (items_of s p) ∷ rows (λ k. item_row s (get_or (items_of s p) k 0)) 32) new

abbrev pub MachinesAt : Text → ℕ → ℕ → List ℕ → List ℕ → Type 0
MachinesAt s base p old new = (e : ℕ) × Machines s base p e old new

-- an entry stands at p and ends at e, no flaw is in it, and its block is put into the index
pub record Told (s : Text) (base p e : ℕ) (old new : List ℕ) : Type 0 where
  pub tree : Tree
  pub reads : value 13 s p ≡ done tree e
  pub fine : Fine 8 tree
  pub sized : length new ≡ length old
  pub few : length (items_of s (column s p (bytes "machines"))) ≤ 32
  pub put : Blank old base → Put old base (block s p) new

-- the array at p is `files`: how many entries it has, and their blocks, are put into the index
pub record Files (s : Text) (p e : ℕ) (old new : List ℕ) : Type 0 where
  pub listed : Listed 8 13 s p e
  pub sized : length new ≡ length old
  pub few : All (λ q. length (items_of s (column s q (bytes "machines"))) ≤ 32) (items_of s p)
  pub put : Blank old 5 → Put old 5 (length (items_of s p) ∷ rows (λ k. block s (get_or (items_of s p) k 0)) 32) new

abbrev pub FilesAt : Text → ℕ → List ℕ → List ℕ → Type 0
FilesAt s p old new = (e : ℕ) × Files s p e old new

-- the manifest object stands at p and ends at e, none of 6 to 9 applies to it, and its index is made where all was 0
pub record Manifest (s : Text) (p e : ℕ) (old new : List ℕ) : Type 0 where
  pub members : Members
  pub reads : value 15 s p ≡ done (obj members) e
  pub versions : versions_at s p ≡ 0
  pub flawless : member_refusal_at s p ≡ 0
  pub few : too_many s p ≡ false
  pub index : old ≡ replicate 2470 0 → new ≡ index_of s p

-- what stands in an object's column c, an array or an object, is told; if nothing does, nothing is put
pub record Holds (T : ℕ → List ℕ → List ℕ → Type 0) (c : ℕ) (old new : List ℕ) : Type 0 where
  pub without : c ≡ 0 → new ≡ old
  pub within : (c ≡ 0 → ⊥) → T c old new

-- what a member with an array or an object puts: it stands at v, and its line is n
pub record Puts (T : ℕ → List ℕ → List ℕ → Type 0) (n line v : ℕ) (old new : List ℕ) : Type 0 where
  pub other : (line ≡ n → ⊥) → new ≡ old
  pub this : line ≡ n → T v old new

-- what a member of an entry puts into the index, and what of `machine` and of `clocks` it leaves kept
pub record EntryPuts (s : Text) (base line v : ℕ) (ix ix' m m' c c' : List ℕ) : Type 0 where
  pub items : Puts (MachinesAt s (base + 12)) 12 line v ix ix'
  pub machine : Puts (RowAt 6 11 s) 11 line v m m'
  pub clocks : Puts (ClocksAt s) 13 line v c c'

-- the same of the members that a row tells
pub record EntryHolds (s : Text) (base : ℕ) (row ix ix' m m' c c' : List ℕ) : Type 0 where
  pub items : Holds (MachinesAt s (base + 12)) (get_or row 3 0) ix ix'
  pub machine : Holds (RowAt 6 11 s) (get_or row 2 0) m m'
  pub clocks : Holds (ClocksAt s) (get_or row 4 0) c c'

-- what a member of the manifest object puts into the index, and what of `trace_time` it leaves kept
pub record ManifestPuts (s : Text) (line v : ℕ) (ix ix' m m' : List ℕ) : Type 0 where
  pub files : Puts (FilesAt s) 19 line v ix ix'
  pub trace : Puts (RowAt 10 13 s) 18 line v m m'

-- the same of the members that a row tells
pub record ManifestHolds (s : Text) (row ix ix' m m' : List ℕ) : Type 0 where
  pub files : Holds (FilesAt s) (get_or row 3 0) ix ix'
  pub trace : Holds (RowAt 10 13 s) (get_or row 2 0) m m'

-- the survey's answer is 0, and this is the index
pub record Clear (s : Text) (ix : List ℕ) : Type 0 where
  pub accepted : survey_of s ≡ 0
  pub index : ix ≡ surveyed s
