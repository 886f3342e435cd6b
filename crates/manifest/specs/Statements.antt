-- The predicates in which the theorems speak. Assumes nothing.
use Rattle.std.specs.Prelude.{◌≡◌, Bool, true, false, List, [], ◌∷◌, ℕ, suc, ◌-◌, ◌≤◌, ◌<◌, pos, length}
use Rattle.text.specs.Reading.{Text, done}
use Rattle.grammar.specs.Tree.{Tree, num, obj, Members, one_member}
use Rattle.grammar.specs.Document.{read}
use Rattle.values.specs.Integer.{whole, integer as integer_of}
use Rattle.numbers.specs.declared.Machine.{Machine}
use Rattle.manifest.specs.declared.Cited.{Cited}
use Rattle.manifest.specs.declared.Cited.TheVariants.{Private, Domain}
use Rattle.manifest.specs.declared.Relation.{Relation}
use Rattle.manifest.specs.declared.Link.{Link}
use Rattle.manifest.specs.declared.Link.TheVariants.{Unrelated, Related}
use Rattle.manifest.specs.declared.Timeline.{Timeline}
use Rattle.manifest.specs.declared.Timeline.TheVariants.{Unset, Set}
use Rattle.manifest.specs.Names.{bytes}
use Rattle.manifest.specs.Kinds.{Kind, text, integer, free, array, object, Fields, end, field}
use Rattle.manifest.specs.View.{Cell, absent, one, View, Row}
use Rattle.manifest.specs.Rows.{Manifest, Entry, path, entries, Clocks, SyncTo, sync_to, sync_file, offset}
use Rattle.manifest.specs.Rules.{Rule, applies, rules, root, find, called, source, reference}
use Rattle.manifest.specs.Meaning.{Listed, Meaning, names_in, number_of, cited, offset_of, linked, relation}
use Rattle.manifest.specs.Manifest.{most_bytes, starts}

-- a stands at place i of a list
pub data At {A : Type 0} : List A → ℕ → A → Type 0 where
  here : {a : A} {l : List A} → At (a ∷ l) 0 a
  further : {a b : A} {l : List A} {i : ℕ} → At l i a → At (b ∷ l) (suc i) a

pub data All {A : Type 0} (P : A → Type 0) : List A → Type 0 where
  all_none : All P []
  all_one : {a : A} {l : List A} → P a → All P l → All P (a ∷ l)

-- `Untouched s t`: none of 1 to 4 applies to the bytes s, and they are the document t
pub record Untouched (s : Text) (t : Tree) : Type 0 where
  pub short : length s ≤ most_bytes
  pub begins : starts s ≡ true
  pub until : ℕ
  pub reads : read s ≡ done t until

-- a document that is an object, and its first member has this name
pub data Opened : Tree → Type 0 where
  opened : {u : Tree} {ms : Members} → Opened (obj (one_member (bytes "perfetto_manifest") u ms))

-- `First rs m n`: n is the number of the first rule of rs that applies to m; or n is 0, and none applies
pub data First : List Rule → Manifest → ℕ → Type 0 where
  none_left : {m : Manifest} → First [] m 0
  this : {r : Rule} {rs : List Rule} {m : Manifest} → applies r m ≡ true → First (r ∷ rs) m r.number
  later : {r : Rule} {rs : List Rule} {m : Manifest} {n : ℕ} → applies r m ≡ false → First rs m n → First (r ∷ rs) m n

-- a value is the integer 1
pub data IsOne : Tree → Type 0 where
  integer_one : {cs : Text} → integer_of cs ≡ whole (pos 1) → IsOne (num cs)

-- `Meets P r c`: the cell c holds one value, of which P holds; or nothing, and that is allowed since r (required) is false
pub data Meets {A : Type 0} (P : A → Type 0) : Bool → Cell A → Type 0 where
  left_out : Meets P false absent
  stands : {r : Bool} {a : A} → P a → Meets P r (one a)

-- each known member is absent and optional, or one value of its type, all the way down
abbrev mutual
  pub Sound : (k : Kind) → View k → Type 0
  Sound text v = Unit {0}
  Sound integer v = Unit {0}
  Sound free v = Unit {0}
  Sound (array k) v = All (λ c. Meets (λ w. Sound k w) true c) v
  Sound (object fs) v = SoundRow fs v

  pub SoundRow : (fs : Fields) → Row fs → Type 0
  SoundRow end v = Unit {0}
  SoundRow (field n r k fs) v = Meets (λ w. Sound k w) r v.0 × SoundRow fs v.1

-- the entry that the path t names: its number and what it is
pub record Found (m : Manifest) (t : Text) : Type 0 where
  pub number : ℕ
  pub entry : Entry
  pub listed : At (entries m) number (one entry)
  pub named : path entry ≡ one t
  pub found : find t 0 (entries m) ≡ one (number, entry)

-- the `clocks` c of entry i relate: the source and the reference are as they say, the reference in the file of a found entry
pub record RelatedBy (m : Manifest) (i : ℕ) (e : Entry) (c : Clocks) : Type 0 where
  pub sync : SyncTo
  pub file : Text
  pub syncs : sync_to c ≡ one sync
  pub names : sync_file sync ≡ one file
  pub found : Found m file
  pub link : linked (relation m i e)
      ≡ Related (record {
        from = cited (names_in m) (source i e c);
        to = cited (names_in m) (reference (found.number, found.entry) sync);
        offset = offset_of (offset c);
      })

-- the machine of a name has a number of its own, from 1 on
pub record Numbered (m : Manifest) (t : Text) : Type 0 where
  pub above : 1 ≤ (number_of (names_in m) (called t)).0
  pub below : (number_of (names_in m) (called t)).0 ≤ length (names_in m)
  pub its : At (names_in m) ((number_of (names_in m) (called t)).0 - 1) t

-- a domain is one of the six
pub record OfSix (d : ℕ) : Type 0 where
  pub above : 1 ≤ d
  pub below : d ≤ 6

-- With e entries and n names: a clock is the private one of one of these entries, or one of the six of the host or of a named machine
pub data ClockIn (e n : ℕ) : Cited → Type 0 where
  of_entry : {i : ℕ} → i < e → ClockIn e n (Private i)
  of_machine : {d : ℕ} {k : Machine} → OfSix d → k.0 ≤ n → ClockIn e n (Domain d k)

pub data LinkIn (e n : ℕ) : Link → Type 0 where
  unrelated : LinkIn e n Unrelated
  related : {r : Relation} → ClockIn e n r.from → ClockIn e n r.to → LinkIn e n (Related r)

pub data TraceIn (n : ℕ) : Timeline → Type 0 where
  unset : TraceIn n Unset
  set : {d : ℕ} {k : Machine} → OfSix d → k.0 ≤ n → TraceIn n (Set d k)

-- every clock of a meaning is so
pub record ClocksIn (w : Meaning) : Type 0 where
  pub links : All (λ (f : Listed). LinkIn (length w.listed) (length w.names) f.link) w.listed
  pub trace : TraceIn (length w.names) w.trace

-- `Accepted s`: the bytes are a manifest, and none of 1 to 24 applies to it
pub record Accepted (s : Text) : Type 0 where
  pub tree : Tree
  pub manifest : Manifest
  pub untouched : Untouched s tree
  pub its_root : root tree ≡ one manifest
  pub none_applies : All (λ r. applies r manifest ≡ false) rules
