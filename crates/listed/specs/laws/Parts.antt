-- What the functions promise of each other: a rule in one entry, a size at a position, a path before an entry; and what is read of the paths, with the slots in which they are kept.
-- Assumes nothing.
use Rattle.std.specs.Prelude.{◌≡◌, Bool, true, false, not, ◌||◌, ◌&&◌, List, ℕ, ◌+◌, ◌*◌, ◌≤◌, ◌<◌, eqb, ltb, length, get_or, take, drop}
use Rattle.text.specs.Reading.{Text, pick}
use Rattle.grammar.specs.Tree.{same}
use Rattle.manifest.specs.View.{one}
use Rattle.manifest.specs.Rows.{holds, any, path, entries, flat, the, item_name, its_items}
use Rattle.manifest.specs.Rules.{Rule, has_path}
use Rattle.index.specs.Index.{col_of, text_at, entry_at, manifest_of}
use Rattle.prints.specs.Prints.{print_at, path_print, front}
use Rattle.prints.specs.laws.Tables.{Tabled}
use Rattle.listed.specs.Settled.{first_of, Settled}

-- rule r applies in entry i
abbrev pub in_entry : Rule → Text → List ℕ → ℕ → Bool
in_entry r s ix i = r.within (manifest_of s ix) i (one (entry_at s ix i))

-- a text of n bytes stands at p, and it is no path
unfoldable pub size_broken : ℕ → ℕ → Bool
size_broken p n = not (eqb p 0) && (ltb n 1 || ltb 255 n)

-- entry i has the path of an entry before it
unfoldable pub path_before : Text → List ℕ → ℕ → Bool
path_before s ix i = holds (λ t. any (holds (has_path t)) (take i (entries (manifest_of s ix)))) (path (entry_at s ix i))

-- ---- slots of 256 bytes

-- slot i of texts
unfoldable pub slot : List ℕ → ℕ → List ℕ
slot texts i = take 256 (drop (256 * i) texts)

-- new is old with other bytes in slot i
pub record Kept (old : List ℕ) (i : ℕ) (bytes new : List ℕ) : Type 0 where
  pub room : length new ≡ 8448
  pub here : slot new i ≡ bytes
  pub others : (j : ℕ) → (j ≡ i → ⊥) → slot new j ≡ slot old j

-- the text at p has n bytes, and the first of them are in slot i
pub record Held (s texts : List ℕ) (i p n : ℕ) : Type 0 where
  pub room : length texts ≡ 8448
  pub among : i ≤ 32
  pub long : n ≡ length (text_at s p)
  pub bytes : slot texts i ≡ front (text_at s p)

-- the text at p was measured, and the first of its bytes were put into slot i
pub record Measured (s : Text) (p : ℕ) (old : List ℕ) (i : ℕ) (new : List ℕ) (n print : ℕ) : Type 0 where
  pub long : n ≡ length (text_at s p)
  pub printed : print ≡ print_at s p
  pub kept : Kept old i (front (text_at s p)) new

-- the n bytes at i and at j are the same
pub record Agree (texts : List ℕ) (i j n : ℕ) : Type 0 where
  pub each : (k : ℕ) → k < n → get_or texts (i + k) 0 ≡ get_or texts (j + k) 0

-- m of the n bytes at i and at j were counted as the same
pub record Counted (texts : List ℕ) (i j m n : ℕ) : Type 0 where
  pub few : m ≤ n
  pub all : m ≡ n → Agree texts i j n

-- ---- the paths of entries

-- the length of the path of entry i
abbrev pub path_length : Text → List ℕ → ℕ → ℕ
path_length s ix i = length (text_at s (col_of ix i 0))

-- the paths of the first n entries are read: their prints and lengths, and each in the slot of its entry
pub record Read (s : Text) (ix prints lengths texts : List ℕ) (n : ℕ) : Type 0 where
  pub printed : Tabled (path_print s ix) prints n
  pub long : Tabled (path_length s ix) lengths n
  pub room : length texts ≡ 8448
  pub bytes : (j : ℕ) → j < n → slot texts j ≡ front (text_at s (col_of ix j 0))

-- ---- the table of names

-- the first n of 32 positions are those of names, with the print, the length and the first bytes of each
pub record Table (s firsts prints lengths texts : List ℕ) (n : ℕ) : Type 0 where
  pub few : n ≤ 32
  pub long : (length firsts ≡ 32) × (length prints ≡ 32) × (length lengths ≡ 32)
  pub room : length texts ≡ 8448
  pub some : (k : ℕ) → k < n → get_or firsts k 0 ≡ 0 → ⊥
  pub none : (k : ℕ) → n ≤ k → get_or firsts k 0 ≡ 0
  pub printed : (k : ℕ) → k < n → get_or prints k 0 ≡ print_at s (get_or firsts k 0)
  pub measured : (k : ℕ) → k < n → get_or lengths k 0 ≡ length (text_at s (get_or firsts k 0))
  pub bytes : (k : ℕ) → k < n → slot texts k ≡ front (text_at s (get_or firsts k 0))

-- the text at p stands first at place r of the first n; or at none of them, and r is n
pub record Placed (s firsts : List ℕ) (n p r : ℕ) : Type 0 where
  pub among : r ≤ n
  pub here : r < n → (any (λ q. same (text_at s p) (text_at s q)) (take n firsts) ≡ true) × (first_of s (take n firsts) p ≡ get_or firsts r 0)
  pub nowhere : r ≡ n → any (λ q. same (text_at s p) (text_at s q)) (take n firsts) ≡ false

-- the first n places of a table, and an index
abbrev pub so_far : List ℕ → ℕ → List ℕ → Settled
so_far firsts n ix = record { firsts = take n firsts; index = ix }

-- the length of the name at p; 1 where there is none, of which no rule speaks
unfoldable pub size_at : Text → ℕ → ℕ
size_at s p = pick (eqb p 0) 1 (length (text_at s p))

-- the names of the items of entry i
abbrev pub item_names : Text → List ℕ → ℕ → List Text
item_names s ix i = flat (λ v. the (item_name v)) (its_items (entry_at s ix i))
