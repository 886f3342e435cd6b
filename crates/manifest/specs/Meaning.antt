-- What an accepted manifest means, machines by their numbers. Assumes nothing.
use Rattle.std.specs.Prelude.{List, [], ◌∷◌, ℕ, suc, ℤ, pos}
use Rattle.text.specs.Reading.{Text, pick}
use Rattle.grammar.specs.Tree.{Tree, same}
use Rattle.values.specs.Integer.{Whole, whole, none}
use Rattle.numbers.specs.declared.Machine.{Machine}
use Rattle.manifest.specs.declared.Cited.{Cited}
use Rattle.manifest.specs.declared.Cited.TheVariants.{Private, Domain}
use Rattle.manifest.specs.declared.Relation.{Relation}
use Rattle.manifest.specs.declared.Link.{Link}
use Rattle.manifest.specs.declared.Link.TheVariants.{Unrelated, Related}
use Rattle.manifest.specs.declared.Timeline.{Timeline}
use Rattle.manifest.specs.declared.Timeline.TheVariants.{Unset, Set}
use Rattle.manifest.specs.View.{Cell, absent, wrong, many, one}
use Rattle.manifest.specs.Rows.{Manifest, TraceTime, Entry, Item, trace_time, trace_clock, trace_file, trace_machine, path, machine_of, id, item_name, sync_to, offset, clocks_of, sync_file, the, flat, onto, is_absent, first_or, entries, its_items, split, declared}
use Rattle.manifest.specs.Rules.{Whose, host, called, cited_or, base, Clock, private, shared, source, reference, domain, named_entry, root}

-- ---- machines

-- "Machine 0 is the host; then each `name` of `machine` and `machines`, in entry order and then item order; .. Equal names are one machine"
unfoldable pub without : Text → List Text → List Text
without t [] = []
without t (u ∷ l) = pick (same u t) (without t l) (u ∷ without t l)

-- each text once, where it first stands
unfoldable pub distinct : List Text → List Text
distinct [] = []
distinct (t ∷ l) = t ∷ without t (distinct l)

-- the names of machines 1, 2, ..
unfoldable pub names_in : Manifest → List Text
names_in m = distinct (flat (λ c. flat declared (the c)) (entries m))

-- a machine's number, by these names (0 also of a name that is not among them; theorem `cited_machine_numbered`)
unfoldable pub number_of : List Text → Whose → Machine
number_of names host = record { 0 = 0 }
number_of names (called t) = record { 0 = first_or 0 (same t) names 1 }

unfoldable pub cited : List Text → Clock → Cited
cited names (private i) = Private i
cited names (shared w d) = Domain d (number_of names w)

-- ---- what an entry says of the file that it lists

-- the machines that it declares: none, one for the whole file, or one for each id of a split file
pub data Owns : Type 0 where
  nothing : Owns
  whole_file : Machine → Owns
  parts : List (ℤ × Machine) → Owns

pub record Listed : Type 0 where
  pub path : Text
  pub owns : Owns
  pub base : Machine
  pub link : Link

unfoldable pub text_or : Cell Text → Text
text_or absent = []
text_or wrong = []
text_or (many i) = []
text_or (one t) = t

-- "`offset_ns` (default 0)"
unfoldable pub offset_of : Cell Whole → ℤ
offset_of absent = pos 0
offset_of wrong = pos 0
offset_of (many i) = pos 0
offset_of (one (whole z)) = z
offset_of (one none) = pos 0

unfoldable pub linked : Cell Relation → Link
linked absent = Unrelated
linked wrong = Unrelated
linked (many i) = Unrelated
linked (one r) = Related r

-- the base machine of a found entry's file; the host where there is none
unfoldable pub base_of : Cell (ℕ × Entry) → Whose
base_of absent = host
base_of wrong = host
base_of (many i) = host
base_of (one p) = base p.1

module _ (m : Manifest) where
  unfoldable pub part : Item → List (ℤ × Machine)
  part v = flat (λ z. flat (λ t. (z, number_of (names_in m) (called t)) ∷ []) (the (item_name v))) (the (id v))

  -- (a file with `machine` has that one for its base machine)
  unfoldable pub owns_of : Entry → Owns
  owns_of e =
      pick (split e) (parts (flat part (its_items e)))
      (pick (is_absent (machine_of e)) nothing (whole_file (number_of (names_in m) (base e))))

  -- "Where the source reads T, the reference reads T + offset"
  abbrev pub relation : ℕ → Entry → Cell Relation
  relation i e =
      onto (clocks_of e) (λ c. onto (sync_to c) (λ s. onto (named_entry m (sync_file s)) (λ p.
      one (record { from = cited (names_in m) (source i e c); to = cited (names_in m) (reference p s); offset = offset_of (offset c) }))))

  abbrev pub listing : ℕ → Entry → Listed
  listing i e = record { path = text_or (path e); owns = owns_of e; base = number_of (names_in m) (base e); link = linked (relation i e) }

  unfoldable pub listings : ℕ → List (Cell Entry) → List Listed
  listings i [] = []
  listings i (absent ∷ l) = listings (suc i) l
  listings i (wrong ∷ l) = listings (suc i) l
  listings i (many j ∷ l) = listings (suc i) l
  listings i (one e ∷ l) = listing i e ∷ listings (suc i) l

  -- "Trace time: `trace_time`'s clock on its named machine, its file's base machine, or the host"
  unfoldable pub timeline : Cell TraceTime → Timeline
  timeline absent = Unset
  timeline wrong = Unset
  timeline (many i) = Unset
  timeline (one t) =
      Set (domain (text_or (trace_clock t))) (number_of (names_in m) (cited_or (trace_machine t) (base_of (named_entry m (trace_file t)))))

-- ---- the meaning

pub record Meaning : Type 0 where
  pub listed : List Listed
  pub trace : Timeline
  pub names : List Text

-- of a manifest without `trace_time` and `files`, and of none
abbrev pub nothing_said : Meaning
nothing_said = record { listed = []; trace = Unset; names = [] }

unfoldable pub meant : Cell Manifest → Meaning
meant absent = nothing_said
meant wrong = nothing_said
meant (many i) = nothing_said
meant (one m) = record { listed = listings m 0 (entries m); trace = timeline m (trace_time m); names = names_in m }

-- the meaning of a document, to be read where `refusal` is 0
unfoldable pub meaning : Tree → Meaning
meaning t = meant (root t)
