-- Document 01's conditions on a manifest and a sheet, said of entries, files, sources and snapshots by their places, with no test and no search. Assumes nothing.
use Rattle.std.specs.Prelude.{◌≡◌, true, false, List, ◌∷◌, ℕ, ◌≤◌, ◌<◌, ℤ, pos, ◌+ℤ◌, ◌-ℤ◌, length, get_or}
use Rattle.std.specs.Int.Signed.{lt_z}
use Rattle.text.specs.Reading.{Text}
use Rattle.numbers.specs.declared.Machine.{Machine}
use Rattle.whole.specs.Whole.{Within}
use Rattle.whole.specs.Pairs.{xs_of, ys_of, nth, Carries}
use Rattle.graphs.specs.Graphs.{World, along}
use Rattle.clocks.specs.laws.Chains.{Exact, Chosen}
use Rattle.manifest.specs.declared.Cited.TheVariants.{Private}
use Rattle.manifest.specs.declared.Relation.{Relation}
use Rattle.manifest.specs.declared.Link.{Link}
use Rattle.manifest.specs.declared.Link.TheVariants.{Related}
use Rattle.manifest.specs.Manifest.{refusal_of, meaning_of}
use Rattle.manifest.specs.Meaning.{Meaning, Listed, nothing, whole_file, parts}
use Rattle.manifest.specs.Statements.{At}
use Rattle.records.specs.Layout.{Record}
use Rattle.records.specs.declared.Source.{Source}
use Rattle.records.specs.declared.Snapshot.{Snapshot}
use Rattle.sheet.specs.Sheets.{records}
use Rattle.merged.specs.Facts.{Filed, Parts, parts_of, facts_of}
use Rattle.merged.specs.Machines.{machine_count}
use Rattle.merged.specs.Refusals.{Check}
use Rattle.merged.specs.declared.Room.{Room}
use Rattle.merged.specs.Merged.{records_of, roomy, Outcome}

-- the one exactly if the other
abbrev pub Exactly : Type 0 → Type 0 → Type 0
Exactly A B = (A → B) × (B → A)

-- ---- the manifest and the sheet

-- an entry lists a file: it has the file's path
pub record Lists (w : Meaning) (v : Filed) (l : Listed) : Type 0 where
  pub number : ℕ
  pub entry : At w.listed number l
  pub path : l.path ≡ v.path

-- file f of the sheet is v, and the entry l lists it
pub record ListedFile (w : Meaning) (p : Parts) (f : ℕ) (v : Filed) (l : Listed) : Type 0 where
  pub in_sheet : At p.files f v
  pub lists : Lists w v l

-- source j of the sheet belongs to file f
pub record SourceOf (p : Parts) (f j : ℕ) : Type 0 where
  pub source : Source
  pub in_sheet : At p.sources j source
  pub its_file : source.file.0 ≡ f

-- "`clocks` without `clock` pins the file": what an entry's `clocks` relate is then a private clock
pub record Pins (k : Link) : Type 0 where
  pub relation : Relation
  pub is : k ≡ Related relation
  pub own : ℕ
  pub from_own : relation.from ≡ Private own

-- a check of the merge applies
abbrev pub Applies : Check → Meaning → Parts → Type 0
Applies c w p = c.applies (facts_of w p) ≡ true

-- ---- 32 to 36

-- 32: "sheet has a file, and an entry's path isn't in it"
pub record PathNotInSheet (w : Meaning) (p : Parts) : Type 0 where
  pub has_file : 1 ≤ length p.files
  pub number : ℕ
  pub entry : Listed
  pub listed : At w.listed number entry
  pub not_in_sheet : {f : ℕ} {v : Filed} → At p.files f v → v.path ≡ entry.path → ⊥

-- 33: "`clocks` on a container"
pub record ClocksOnContainer (w : Meaning) (p : Parts) : Type 0 where
  pub number : ℕ
  pub file : Filed
  pub entry : Listed
  pub listed : ListedFile w p number file entry
  pub container : file.container ≡ true
  pub relation : Relation
  pub clocks : entry.link ≡ Related relation

-- 34: "source id not declared in its file's `machines`"
pub record IdNotDeclared (w : Meaning) (p : Parts) : Type 0 where
  pub number : ℕ
  pub source : Source
  pub in_sheet : At p.sources number source
  pub file : Filed
  pub entry : Listed
  pub listed : ListedFile w p source.file.0 file entry
  pub items : List (ℤ × Machine)
  pub machines : entry.owns ≡ parts items
  pub not_declared : {i : ℕ} {m : Machine} → At items i (pos source.id, m) → ⊥

-- 35: "`machine` on a file with two or more sources"
pub record MachineOnSeveral (w : Meaning) (p : Parts) : Type 0 where
  pub number : ℕ
  pub file : Filed
  pub entry : Listed
  pub listed : ListedFile w p number file entry
  pub name : Machine
  pub machine : entry.owns ≡ whole_file name
  pub first : ℕ
  pub second : ℕ
  pub two : first < second
  pub one_source : SourceOf p number first
  pub other_source : SourceOf p number second

-- 36: "pinned file with a snapshot"
pub record PinnedWithSnapshot (w : Meaning) (p : Parts) : Type 0 where
  pub number : ℕ
  pub file : Filed
  pub entry : Listed
  pub listed : ListedFile w p number file entry
  pub pins : Pins entry.link
  pub place : ℕ
  pub snapshot : Snapshot
  pub taken : At p.snapshots place snapshot
  pub by_source : SourceOf p number snapshot.source

-- none of 32 to 37
pub record NoneTogether (w : Meaning) (p : Parts) : Type 0 where
  pub not_32 : PathNotInSheet w p → ⊥
  pub not_33 : ClocksOnContainer w p → ⊥
  pub not_34 : IdNotDeclared w p → ⊥
  pub not_35 : MachineOnSeveral w p → ⊥
  pub not_36 : PinnedWithSnapshot w p → ⊥
  pub not_37 : machine_count (facts_of w p) ≤ 32

-- no number applies: the manifest and the sheet are each accepted, none of 32 to 37 applies, and the lent memory is long enough
pub record Agrees (m : Text) (b : List ℕ) (room : Room) : Type 0 where
  pub rs : List Record
  pub manifest : refusal_of m ≡ 0
  pub sheet : records_of b ≡ records rs
  pub together : NoneTogether (meaning_of m) (parts_of rs)
  pub fits : roomy (parts_of rs) room ≡ true

-- ---- the drops

-- "a value after some pair is outside -2^63 to 2^63-1": of t on clock c, carried along a path of graph g. Until then each value is the exact sum, within
-- 64 bits, as in `Exact`
pub data Leaves (g : ℕ) (w : World) : ℕ → List ℕ → ℤ → Type 0 where
  at_once : {c d i : ℕ} {p : List ℕ} {t : ℤ} → Carries t (xs_of (along g w c d)) i
      → (Within (t +ℤ nth (ys_of (along g w c d)) i -ℤ nth (xs_of (along g w c d)) i) → ⊥) → Leaves g w c (d ∷ p) t
  later : {c d i : ℕ} {p : List ℕ} {t u : ℤ} → Carries t (xs_of (along g w c d)) i
      → t +ℤ nth (ys_of (along g w c d)) i -ℤ nth (xs_of (along g w c d)) i ≡ u → Within u → Leaves g w d p u → Leaves g w c (d ∷ p) t

-- an event on clock c that reads t is placed: at the exact sum along its path, which isn't negative, with the path's length as steps
pub record IsPlaced (w : World) (c : ℕ) (t : ℤ) (g : ℕ) (time : ℤ) (steps : ℕ) : Type 0 where
  pub path : List ℕ
  pub chosen : Chosen w c g path
  pub exact : Exact g w c path t time
  pub not_negative : lt_z time (pos 0) ≡ false
  pub length_is : length path ≡ steps

-- drop 2: "a path exists and a value after some pair is outside -2^63 to 2^63-1"
pub record IsOutside (w : World) (c : ℕ) (t : ℤ) : Type 0 where
  pub graph : ℕ
  pub path : List ℕ
  pub chosen : Chosen w c graph path
  pub leaves : Leaves graph w c path t

-- drop 3: "no drop 2, and the end value is negative"
pub record IsEarly (w : World) (c : ℕ) (t : ℤ) : Type 0 where
  pub graph : ℕ
  pub path : List ℕ
  pub chosen : Chosen w c graph path
  pub end : ℤ
  pub exact : Exact graph w c path t end
  pub negative : lt_z end (pos 0) ≡ true

-- what memory holds of event k
pub record Holds (o : Outcome) (k : ℕ) (time : ℤ) (kind steps : ℕ) : Type 0 where
  pub its_time : get_or o.times k (pos 0) ≡ time
  pub its_kind : get_or o.kinds k 0 ≡ kind
  pub its_steps : get_or o.steps k 0 ≡ steps

-- ---- machines

-- nothing is said of the machines of file f: an entry that lists it has neither `machine` nor `machines`
abbrev pub Unsaid : Meaning → Parts → ℕ → Type 0
Unsaid w p f = (v : Filed) (l : Listed) → ListedFile w p f v l → l.owns ≡ nothing

-- a source whose machine is "the machine of that id": nothing is said of its file's machines, the file has another source, and the id isn't 0
pub record ById (w : Meaning) (p : Parts) (j id : ℕ) : Type 0 where
  pub source : Source
  pub in_sheet : At p.sources j source
  pub its_id : source.id ≡ id
  pub not_zero : id ≡ 0 → ⊥
  pub unsaid : Unsaid w p source.file.0
  pub other : ℕ
  pub another : other ≡ j → ⊥
  pub beside : SourceOf p source.file.0 other
