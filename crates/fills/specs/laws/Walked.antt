-- What the walk over a manifest's text finds of a value: where it ends, and the first places of its members. The words of the private contracts. Assumes nothing.
use Rattle.std.specs.Prelude.{◌≡◌, Bool, true, false, List, [], ◌∷◌, ℕ, ◌+◌, eqb, length, get_or, set}
use Rattle.text.specs.Reading.{Text, done, pick, peek}
use Rattle.text.specs.Class.{skip}
use Rattle.text.specs.declared.Scan.{Scan}
use Rattle.text.specs.declared.Scan.TheVariants.{Done, Bad, Deep}
use Rattle.grammar.specs.Tree.{Tree}
use Rattle.grammar.specs.Document.{value, most}
use Rattle.values.specs.Stands.{Stands}
use Rattle.values.specs.Strings.{same_as}
use Rattle.manifest.specs.Names.{bytes}
use Rattle.index.specs.Index.{column, items_of, rows, item_row, block}
use Rattle.index.proofs.laws.Put.{Put}
use Rattle.fills.specs.declared.Next.{Next}

-- ---- a value

-- at p, which is not 0, some value stands
pub record There (s : Text) (p : ℕ) : Type 0 where
  pub past_0 : p ≡ 0 → ⊥
  pub tree : Tree
  pub stands : Stands s p tree

-- so it is; or else no member is found there
pub record IsThere (s : Text) (p : ℕ) (r : Bool) : Type 0 where
  pub yes : r ≡ true → There s p
  pub no : r ≡ false → (n : Text) → 0 ≡ column s p n

-- a value at p ends at r
pub record Ends (s : Text) (p r : ℕ) : Type 0 where
  pub are : (t : Tree) (n : ℕ) → value most s p ≡ done t n → r ≡ n

-- where a reading ended
abbrev pub reached : Scan → ℕ
reached (Done j) = j
reached (Bad p) = p
reached (Deep p) = p

-- ---- one part after the other

-- where the first part of the value at p starts, between two bytes; 0 if it has none, and then where it ends
pub record Opens (s : Text) (p opening closing : ℕ) (r : Next) : Type 0 where
  pub other : (peek s p ≡ opening → ⊥) → (r.start ≡ 0) × Ends s p r.end
  pub empty : peek s p ≡ opening → peek s (skip s (p + 1)) ≡ closing → (r.start ≡ 0) × (r.end ≡ skip s (p + 1) + 1)
  pub some : peek s p ≡ opening → (peek s (skip s (p + 1)) ≡ closing → ⊥) → r.start ≡ skip s (p + 1)

-- where the part after the one that ends at e starts; 0 after the last one, and then where the whole ends
pub record Follows (s : Text) (e : ℕ) (r : Next) : Type 0 where
  pub comma : peek s (skip s e) ≡ 44 → r.start ≡ skip s (skip s e + 1)
  pub close : (peek s (skip s e) ≡ 44 → ⊥) → (r.start ≡ 0) × (r.end ≡ skip s e + 1)

-- ---- the members that were met

-- the name that starts at a is n, and w says that there was none before
unfoldable pub is_first : Text → ℕ → Text → ℕ → Bool
is_first s a n w = pick (eqb w 0) (same_as s a n) false

-- the first places of all names, 0 for none: f before, and now a member is met whose name starts at a and whose value at v
unfoldable pub met : Text → ℕ → ℕ → (Text → ℕ) → Text → ℕ
met s a v f n = pick (is_first s a n (f n)) v (f n)

-- which of four tests holds first: 0, 1, 2, 3, or 4 for none
unfoldable pub line_of : Bool → Bool → Bool → Bool → ℕ
line_of a b c d = pick a 0 (pick b 1 (pick c 2 (pick d 3 4)))

-- nothing was met
abbrev pub none : Text → ℕ
none n = 0

-- three columns of the object at p, and where it ends
pub record RowTo (s : Text) (p : ℕ) (a b c : Text) (r : List ℕ) : Type 0 where
  pub until : ℕ
  pub ends : Ends s p until
  pub is : r ≡ column s p a ∷ column s p b ∷ column s p c ∷ until ∷ []

-- a row with v at k and with three columns of the object at v after it
abbrev pub four : Text → List ℕ → ℕ → ℕ → Text → Text → Text → List ℕ
four s row k v a b c = set (set (set (set row k v) (k + 1) (column s v a)) (k + 2) (column s v b)) (k + 3) (column s v c)

-- ---- the rows of the index by what was met

-- an entry's row by its own numbers, by what was met in its `clocks`, and by its count of items
unfoldable pub row_by : Text → ℕ → ℕ → ℕ → ℕ → ℕ → (Text → ℕ) → ℕ → List ℕ
row_by s path machine name machines clocks g n =
    path
    ∷ machine
    ∷ name
    ∷ machines
    ∷ clocks
    ∷ g (bytes "clock")
    ∷ g (bytes "machine")
    ∷ g (bytes "sync_to")
    ∷ column s (g (bytes "sync_to")) (bytes "file")
    ∷ column s (g (bytes "sync_to")) (bytes "machine")
    ∷ column s (g (bytes "sync_to")) (bytes "clock")
    ∷ g (bytes "offset_ns")
    ∷ n
    ∷ []

-- by what was met in the entry
unfoldable pub entry_by : Text → (Text → ℕ) → List ℕ
entry_by s f =
    row_by s (f (bytes "path")) (f (bytes "machine")) (column s (f (bytes "machine")) (bytes "name")) (f (bytes "machines")) (f (bytes "clocks"))
    (column s (f (bytes "clocks"))) (length (items_of s (f (bytes "machines"))))

-- the row of the manifest object
unfoldable pub head_by : Text → (Text → ℕ) → List ℕ
head_by s f =
    f (bytes "files")
    ∷ f (bytes "trace_time")
    ∷ column s (f (bytes "trace_time")) (bytes "clock")
    ∷ column s (f (bytes "trace_time")) (bytes "file")
    ∷ column s (f (bytes "trace_time")) (bytes "machine")
    ∷ length (items_of s (f (bytes "files")))
    ∷ []

-- a member of `clocks` met: its numbers are in the entry's row
pub record ClockMet (s : Text) (a v : ℕ) (old new : List ℕ) : Type 0 where
  pub sized : length new ≡ length old
  pub is : (path machine name machines clocks n : ℕ) (g : Text → ℕ) → old ≡ row_by s path machine name machines clocks g n → new ≡ row_by s path machine name machines clocks (met s a v g) n

-- `clocks` met at p
pub record ClocksMet (s : Text) (p : ℕ) (old new : List ℕ) : Type 0 where
  pub is : (path machine name machines clocks n : ℕ) → old ≡ row_by s path machine name machines clocks none n → new ≡ row_by s path machine name machines p (column s p) n

-- the row of an entry and the items in ix, which was o at first, by what was met in the entry
pub record EntryHas (s : Text) (base : ℕ) (o : List ℕ) (f : Text → ℕ) (row ix : List ℕ) : Type 0 where
  pub is : row ≡ entry_by s f
  pub items : Put o (base + 13) (rows (λ k. item_row s (get_or (items_of s (f (bytes "machines"))) k 0)) 32) ix
  pub fresh : f (bytes "machines") ≡ 0 → ix ≡ o

pub record EntryMet (s : Text) (a v base : ℕ) (row row' ix ix' : List ℕ) : Type 0 where
  pub is : (o : List ℕ) (f : Text → ℕ) → EntryHas s base o f row ix → EntryHas s base o (met s a v f) row' ix'

-- the row of the manifest object and the entries in ix, which was o at first
pub record HeadHas (s : Text) (o : List ℕ) (f : Text → ℕ) (row ix : List ℕ) : Type 0 where
  pub is : row ≡ head_by s f
  pub entries : Put o 6 (rows (λ k. block s (get_or (items_of s (f (bytes "files"))) k 0)) 32) ix
  pub fresh : f (bytes "files") ≡ 0 → ix ≡ o

pub record HeadMet (s : Text) (a v : ℕ) (row row' ix ix' : List ℕ) : Type 0 where
  pub is : (o : List ℕ) (f : Text → ℕ) → HeadHas s o f row ix → HeadHas s o (met s a v f) row' ix'
