-- The index: for each known member the position of its value in the text; and the manifest that an index stands for. Assumes nothing.
use Rattle.std.specs.Prelude.{Bool, ◌||◌, List, [], ◌∷◌, ◌++◌, ℕ, zero, suc, ◌+◌, ◌*◌, min, eqb, ltb, ℤ, pos, length, get_or}
use Rattle.text.specs.Reading.{Text, Out, done, bad, deep, pick}
use Rattle.text.specs.Strings.{string}
use Rattle.text.specs.Numbers.{number}
use Rattle.values.specs.Integer.{Whole, whole, none, integer as integer_of}
use Rattle.places.specs.Places.{member_at, items_at}
use Rattle.manifest.specs.Names.{bytes}
use Rattle.manifest.specs.View.{Cell, absent, one, as_integer}
use Rattle.manifest.specs.Rows.{Manifest, TraceTime, Entry, Item, Clocks, SyncTo, any}
use Rattle.manifest.specs.Rules.{most_entries, most_items, Whose, host, called}

-- ---- what stands at a position

-- the text of the string at p; no bytes where none stands
unfoldable pub text_in : Out Text → Text
text_in (done t j) = t
text_in (bad p) = []
text_in (deep p) = []

unfoldable pub text_at : Text → ℕ → Text
text_at s p = text_in (string s p)

-- which integer the number at p is; none where no integer stands
unfoldable pub whole_in : Out Text → Whole
whole_in (done cs j) = integer_of cs
whole_in (bad p) = none
whole_in (deep p) = none

unfoldable pub whole_at : Text → ℕ → Whole
whole_at s p = whole_in (number s p)

-- ---- positions. 0 stands for no value: at 0 is no member's value and no item (laws.Positive)

-- where the member n of the object at p has its value; 0 if there is none
unfoldable pub column : Text → ℕ → Text → ℕ
column s p n = pick (eqb p 0) 0 (member_at s p n).at

-- where the items of the array at p stand
unfoldable pub items_of : Text → ℕ → List ℕ
items_of s p = pick (eqb p 0) [] (items_at s p)

-- ---- the numbers of an index

-- f 0, f 1, .. one after the other, n of them
unfoldable pub rows : (ℕ → List ℕ) → ℕ → List ℕ
rows f zero = []
rows f (suc n) = rows f n ++ f n

-- of the manifest object at v: `files`; `trace_time`, its `clock`, `file`, `machine`; how many entries there are
unfoldable pub head_row : Text → ℕ → List ℕ
head_row s v =
    column s v (bytes "files")
    ∷ column s v (bytes "trace_time")
    ∷ column s (column s v (bytes "trace_time")) (bytes "clock")
    ∷ column s (column s v (bytes "trace_time")) (bytes "file")
    ∷ column s (column s v (bytes "trace_time")) (bytes "machine")
    ∷ length (items_of s (column s v (bytes "files")))
    ∷ []

-- of the entry at p: `path`; `machine` and its `name`; `machines`; `clocks`, its `clock` and `machine`; its `sync_to`, that one's `file`,
-- `machine` and `clock`; its `offset_ns`; how many `machines` there are
unfoldable pub entry_row : Text → ℕ → List ℕ
entry_row s p =
    column s p (bytes "path")
    ∷ column s p (bytes "machine")
    ∷ column s (column s p (bytes "machine")) (bytes "name")
    ∷ column s p (bytes "machines")
    ∷ column s p (bytes "clocks")
    ∷ column s (column s p (bytes "clocks")) (bytes "clock")
    ∷ column s (column s p (bytes "clocks")) (bytes "machine")
    ∷ column s (column s p (bytes "clocks")) (bytes "sync_to")
    ∷ column s (column s (column s p (bytes "clocks")) (bytes "sync_to")) (bytes "file")
    ∷ column s (column s (column s p (bytes "clocks")) (bytes "sync_to")) (bytes "machine")
    ∷ column s (column s (column s p (bytes "clocks")) (bytes "sync_to")) (bytes "clock")
    ∷ column s (column s p (bytes "clocks")) (bytes "offset_ns")
    ∷ length (items_of s (column s p (bytes "machines")))
    ∷ []

-- of the item of `machines` at p: `id`, `name`
unfoldable pub item_row : Text → ℕ → List ℕ
item_row s p = column s p (bytes "id") ∷ column s p (bytes "name") ∷ []

-- of the entry at p: its row, then the rows of its first 32 items; past the last item all is 0
unfoldable pub block : Text → ℕ → List ℕ
block s p = entry_row s p ++ rows (λ k. item_row s (get_or (items_of s (column s p (bytes "machines"))) k 0)) most_items

-- the index of the manifest object at v, 6 + 32 * (13 + 32 * 2) = 2470 numbers: its row, then the blocks of the first 32 entries;
-- past the last entry all is 0
unfoldable pub index_of : Text → ℕ → List ℕ
index_of s v = head_row s v ++ rows (λ i. block s (get_or (items_of s (column s v (bytes "files"))) i 0)) most_entries

-- more than 32 items are in `files`, or in the `machines` of one of them: then the index does not hold them all
unfoldable pub many_items : Text → ℕ → Bool
many_items s p = ltb most_items (length (items_of s (column s p (bytes "machines"))))

unfoldable pub too_many : Text → ℕ → Bool
too_many s v =
    ltb most_entries (length (items_of s (column s v (bytes "files"))))
    || any (many_items s) (items_of s (column s v (bytes "files")))

-- ---- reading an index

-- number j of entry i; 0 where there is none
unfoldable pub col_of : List ℕ → ℕ → ℕ → ℕ
col_of ix i j = pick (ltb i 32) (pick (ltb j 12) (get_or ix (6 + (77 * i + j)) 0) 0) 0

-- number j of item k of entry i
unfoldable pub item_of : List ℕ → ℕ → ℕ → ℕ → ℕ
item_of ix i k j = pick (ltb i 32) (pick (ltb k 32) (pick (ltb j 2) (get_or ix (6 + (77 * i + (13 + (2 * k + j)))) 0) 0) 0) 0

-- how many entries the index holds, none without `files`; and how many items of entry i, none without `machines`
unfoldable pub entries_in : List ℕ → ℕ
entries_in ix = pick (eqb (get_or ix 0 0) 0) 0 (min 32 (get_or ix 5 0))

unfoldable pub items_in : List ℕ → ℕ → ℕ
items_in ix i = pick (eqb (col_of ix i 3) 0) 0 (min 32 (get_or ix (6 + (77 * i + 12)) 0))

-- ---- the manifest that an index stands for

-- a value that stands at p; nothing, if p is 0
unfoldable pub at : {A : Type 0} → ℕ → Cell A → Cell A
at p c = pick (eqb p 0) absent c

abbrev pub text_cell : Text → ℕ → Cell Text
text_cell s p = at p (one (text_at s p))

abbrev pub id_cell : Text → ℕ → Cell ℤ
id_cell s p = at p (as_integer (whole_at s p))

abbrev pub offset_cell : Text → ℕ → Cell Whole
offset_cell s p = at p (one (whole_at s p))

-- f i, f (i + 1), .., n of them
unfoldable pub listed : {A : Type 0} → (ℕ → A) → ℕ → ℕ → List A
listed f i zero = []
listed f i (suc n) = f i ∷ listed f (suc i) n

-- an item and an entry by their numbers c
unfoldable pub item_by : Text → (ℕ → ℕ) → Item
item_by s c = (id_cell s (c 0), (text_cell s (c 1), tt))

unfoldable pub sync_by : Text → (ℕ → ℕ) → SyncTo
sync_by s c = (text_cell s (c 8), (text_cell s (c 9), (text_cell s (c 10), tt)))

unfoldable pub clocks_by : Text → (ℕ → ℕ) → Clocks
clocks_by s c = (text_cell s (c 5), (text_cell s (c 6), (at (c 7) (one (sync_by s c)), (offset_cell s (c 11), tt))))

unfoldable pub entry_by : Text → (ℕ → ℕ) → List (Cell Item) → Entry
entry_by s c items =
    (text_cell s (c 0), (at (c 1) (one (text_cell s (c 2), tt)), (at (c 3) (one items), (at (c 4) (one (clocks_by s c)), tt))))

unfoldable pub items_from : Text → List ℕ → ℕ → List (Cell Item)
items_from s ix i = listed (λ k. one (item_by s (item_of ix i k))) 0 (items_in ix i)

unfoldable pub entry_at : Text → List ℕ → ℕ → Entry
entry_at s ix i = entry_by s (col_of ix i) (items_from s ix i)

unfoldable pub trace_at : Text → List ℕ → TraceTime
trace_at s ix = (text_cell s (get_or ix 2 0), (text_cell s (get_or ix 3 0), (text_cell s (get_or ix 4 0), tt)))

-- the version is 1: of no other manifest an index is made
unfoldable pub manifest_of : Text → List ℕ → Manifest
manifest_of s ix = (
  one (whole (pos 1)),
  (
    at (get_or ix 1 0) (one (trace_at s ix)),
    (at (get_or ix 0 0) (one (listed (λ i. one (entry_at s ix i)) 0 (entries_in ix))), tt),
  ),
)

-- the machine whose name stands at p; the host, if p is 0
unfoldable pub whose_at : Text → ℕ → Whose
whose_at s p = pick (eqb p 0) host (called (text_at s p))
