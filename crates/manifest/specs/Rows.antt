-- The members of the known objects by name (a row is nested pairs, in the table's order), and lists of what a manifest holds. Assumes nothing.
use Rattle.std.specs.Prelude.{Bool, true, false, not, ◌||◌, List, [], ◌∷◌, ◌++◌, ℕ, suc, ℤ}
use Rattle.text.specs.Reading.{Text, pick}
use Rattle.values.specs.Integer.{Whole}
use Rattle.manifest.specs.Kinds.{manifest, trace_time_fields, entry, machine, item, clocks, sync_to_fields}
use Rattle.manifest.specs.View.{Cell, absent, wrong, many, one, Row}

abbrev pub Manifest : Type 0
Manifest = Row manifest

abbrev pub TraceTime : Type 0
TraceTime = Row trace_time_fields

abbrev pub Entry : Type 0
Entry = Row entry

abbrev pub Named : Type 0
Named = Row machine

abbrev pub Item : Type 0
Item = Row item

abbrev pub Clocks : Type 0
Clocks = Row clocks

abbrev pub SyncTo : Type 0
SyncTo = Row sync_to_fields

module _ (m : Manifest) where
  abbrev pub version : Cell Whole
  version = m.0

  abbrev pub trace_time : Cell TraceTime
  trace_time = m.1.0

  abbrev pub files : Cell (List (Cell Entry))
  files = m.1.1.0

module _ (t : TraceTime) where
  abbrev pub trace_clock : Cell Text
  trace_clock = t.0

  abbrev pub trace_file : Cell Text
  trace_file = t.1.0

  abbrev pub trace_machine : Cell Text
  trace_machine = t.1.1.0

module _ (e : Entry) where
  abbrev pub path : Cell Text
  path = e.0

  abbrev pub machine_of : Cell Named
  machine_of = e.1.0

  abbrev pub machines_of : Cell (List (Cell Item))
  machines_of = e.1.1.0

  abbrev pub clocks_of : Cell Clocks
  clocks_of = e.1.1.1.0

abbrev pub its_name : Named → Cell Text
its_name v = v.0

abbrev pub id : Item → Cell ℤ
id v = v.0

abbrev pub item_name : Item → Cell Text
item_name v = v.1.0

module _ (c : Clocks) where
  abbrev pub own_clock : Cell Text
  own_clock = c.0

  abbrev pub own_machine : Cell Text
  own_machine = c.1.0

  abbrev pub sync_to : Cell SyncTo
  sync_to = c.1.1.0

  abbrev pub offset : Cell Whole
  offset = c.1.1.1.0

module _ (s : SyncTo) where
  abbrev pub sync_file : Cell Text
  sync_file = s.0

  abbrev pub sync_machine : Cell Text
  sync_machine = s.1.0

  abbrev pub sync_clock : Cell Text
  sync_clock = s.1.1.0

-- ---- cells and lists

-- the value, if there is one: a list of none or one
unfoldable pub the : {A : Type 0} → Cell A → List A
the absent = []
the wrong = []
the (many i) = []
the (one a) = a ∷ []

-- the items of an array; none, if there is no array
unfoldable pub every : {A : Type 0} → Cell (List A) → List A
every absent = []
every wrong = []
every (many i) = []
every (one l) = l

-- a value of a value
unfoldable pub onto : {A B : Type 0} → Cell A → (A → Cell B) → Cell B
onto absent f = absent
onto wrong f = absent
onto (many i) f = absent
onto (one a) f = f a

unfoldable pub is_absent : {A : Type 0} → Cell A → Bool
is_absent absent = true
is_absent wrong = false
is_absent (many i) = false
is_absent (one a) = false

-- whether p holds of the value
unfoldable pub holds : {A : Type 0} → (A → Bool) → Cell A → Bool
holds p absent = false
holds p wrong = false
holds p (many i) = false
holds p (one a) = p a

unfoldable pub any : {A : Type 0} → (A → Bool) → List A → Bool
any p [] = false
any p (a ∷ l) = p a || any p l

-- whether p holds of an element and its place, counted from i
unfoldable pub any_at : {A : Type 0} → (ℕ → A → Bool) → ℕ → List A → Bool
any_at p i [] = false
any_at p i (a ∷ l) = p i a || any_at p (suc i) l

-- the first place at which p holds, counted from i; d if there is none
unfoldable pub first_or : {A : Type 0} → ℕ → (A → Bool) → List A → ℕ → ℕ
first_or d p [] i = d
first_or d p (a ∷ l) i = pick (p a) i (first_or d p l (suc i))

unfoldable pub flat : {A B : Type 0} → (A → List B) → List A → List B
flat f [] = []
flat f (a ∷ l) = f a ++ flat f l

-- ---- what a manifest holds

-- the items of `files`, objects or not
abbrev pub entries : Manifest → List (Cell Entry)
entries m = every (files m)

-- of an entry: its `clocks`, its `sync_to`, the objects among its `machines`
abbrev pub its_clocks : Entry → List Clocks
its_clocks e = the (clocks_of e)

abbrev pub its_syncs : Entry → List SyncTo
its_syncs e = flat (λ c. the (sync_to c)) (its_clocks e)

abbrev pub its_items : Entry → List Item
its_items e = flat the (every (machines_of e))

-- "A file with `machines` is split, even if the array is empty"
abbrev pub split : Entry → Bool
split e = not (is_absent (machines_of e))

-- "it declares those names. A file with `machine` declares that one"
abbrev pub declared : Entry → List Text
declared e = flat (λ v. the (its_name v)) (the (machine_of e)) ++ flat (λ v. the (item_name v)) (its_items e)

abbrev pub ids : Entry → List ℤ
ids e = flat (λ v. the (id v)) (its_items e)

-- what an entry cites
abbrev pub cited_files : Entry → List Text
cited_files e = flat (λ s. the (sync_file s)) (its_syncs e)

abbrev pub cited_machines : Entry → List Text
cited_machines e = flat (λ c. the (own_machine c)) (its_clocks e) ++ flat (λ s. the (sync_machine s)) (its_syncs e)

abbrev pub cited_clocks : Entry → List Text
cited_clocks e = flat (λ c. the (own_clock c)) (its_clocks e) ++ flat (λ s. the (sync_clock s)) (its_syncs e)
