-- The files and sources of a sheet, each with what the manifest says of it. Assumes nothing.
use Rattle.std.specs.Prelude.{Bool, false, List, [], ◌∷◌, map, ℕ, suc, eqb, ℤ, pos, length, get_or}
use Rattle.text.specs.Reading.{Text, pick}
use Rattle.grammar.specs.Tree.{same}
use Rattle.numbers.specs.declared.Machine.{Machine}
use Rattle.manifest.specs.declared.Cited.{Cited}
use Rattle.manifest.specs.declared.Cited.TheVariants.{Private, Domain}
use Rattle.manifest.specs.declared.Link.{Link}
use Rattle.manifest.specs.declared.Link.TheVariants.{Unrelated, Related}
use Rattle.manifest.specs.Rows.{first_or, any}
use Rattle.manifest.specs.Rules.{same_id}
use Rattle.manifest.specs.Meaning.{Meaning, Listed, Owns, nothing, whole_file, parts}
use Rattle.records.specs.Layout.{Record, file, source, snapshot, event, ending, unknown}
use Rattle.records.specs.declared.Source.{Source}
use Rattle.records.specs.declared.Snapshot.{Snapshot}
use Rattle.records.specs.declared.Event.{Event}
use Rattle.sheet.specs.Lists.{files_of, sources_of, snapshots_of, events_of}

-- ---- what the sheet says

-- a file record; what is none is a file without anything
pub record Filed : Type 0 where
  pub container : Bool
  pub claim : ℕ
  pub path : Text

abbrev pub no_file : Filed
no_file = record { container = false; claim = 0; path = [] }

abbrev pub filed : Record → Filed
filed (file c k p) = record { container = c; claim = k; path = p }
filed (source x) = no_file
filed (snapshot x) = no_file
filed (event x) = no_file
filed ending = no_file
filed unknown = no_file

-- all that it holds, in its order: "Files, sources and events are numbered from 0"
pub record Parts : Type 0 where
  pub files : List Filed
  pub sources : List Source
  pub snapshots : List Snapshot
  pub events : List Event

abbrev pub parts_of : List Record → Parts
parts_of rs = record { files = map filed (files_of rs); sources = sources_of rs; snapshots = snapshots_of rs; events = events_of rs }

-- ---- what the manifest says of a file

-- the number of the entry that lists a path; 32 if none does
unfoldable pub entry_for : Meaning → Text → ℕ
entry_for w t = first_or 32 (λ l. same t l.path) w.listed 0

-- of a file that no entry lists nothing is said: no machine, no `clocks`, and its base machine is the host
abbrev pub unlisted : Listed
unlisted = record { path = []; owns = nothing; base = record { 0 = 0 }; link = Unrelated }

unfoldable pub said : Meaning → Filed → Listed
said w f = get_or w.listed (entry_for w f.path) unlisted

-- whether a file's clocks are tied by `clocks`; "`clocks` without `clock` pins the file": then the source clock is the file's private clock
pub data Tie : Type 0 where
  untied tied pinned : Tie

unfoldable pub tie_from : Cited → Tie
tie_from (Private i) = pinned
tie_from (Domain d m) = tied

unfoldable pub tie_by : Link → Tie
tie_by Unrelated = untied
tie_by (Related r) = tie_from r.from

-- ---- what the manifest says of a source of a file: nothing; the file's one machine; the machine named for its id; or that its id isn't declared
pub data Given : Type 0 where
  silent : Given
  whole : Machine → Given
  named : Machine → Given
  undeclared : Given

unfoldable pub named_for : ℕ → List (ℤ × Machine) → Given
named_for id [] = undeclared
named_for id (p ∷ l) = pick (same_id (pos id) p.0) (named p.1) (named_for id l)

unfoldable pub given_by : Owns → ℕ → Given
given_by nothing id = silent
given_by (whole_file m) id = whole m
given_by (parts l) id = named_for id l

-- ---- both together

pub record FileFact : Type 0 where
  pub entry : ℕ
  pub tie : Tie
  pub base : Machine
  pub container : Bool
  pub claim : ℕ
  -- whether one of its sources has a snapshot
  pub recorded : Bool

pub record SourceFact : Type 0 where
  pub file : ℕ
  pub id : ℕ
  pub given : Given

-- with the numbers of entries and of named machines
pub record Facts : Type 0 where
  pub files : List FileFact
  pub sources : List SourceFact
  pub entries : ℕ
  pub names : ℕ

abbrev pub no_source : Source
no_source = record { file = record { 0 = 0 }; id = 0 }

module _ (w : Meaning) (p : Parts) where
  unfoldable pub file_fact : ℕ → Filed → FileFact
  file_fact f v =
      record {
        entry = entry_for w v.path;
        tie = tie_by (said w v).link;
        base = (said w v).base;
        container = v.container;
        claim = v.claim;
        recorded = any (λ (n : Snapshot). eqb (get_or p.sources n.source no_source).file.0 f) p.snapshots;
      }

  unfoldable pub file_facts : ℕ → List Filed → List FileFact
  file_facts f [] = []
  file_facts f (v ∷ l) = file_fact f v ∷ file_facts (suc f) l

  unfoldable pub source_fact : Source → SourceFact
  source_fact x =
      record { file = x.file.0; id = x.id; given = given_by (said w (get_or p.files x.file.0 no_file)).owns x.id }

  unfoldable pub facts_of : Facts
  facts_of =
      record {
        files = file_facts 0 p.files;
        sources = map source_fact p.sources;
        entries = length w.listed;
        names = length w.names;
      }
