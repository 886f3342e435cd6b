-- The names of machines in an index, each told by where its text first stands: then names that are the same stand at one place. The manifest that the index stands for
-- stays as it is (theorem `settled_is`), and the places of different names are told (theorem `firsts_apart`). Assumes nothing.
use Rattle.std.specs.Prelude.{List, [], ◌∷◌, ◌++◌, ℕ, ◌+◌, ◌-◌, ◌*◌, eqb, length, get_or, take, set, replicate}
use Rattle.text.specs.Reading.{Text, pick}
use Rattle.grammar.specs.Tree.{same}
use Rattle.manifest.specs.Rows.{any, flat}
use Rattle.index.specs.Index.{text_at, entries_in, items_in, listed}

-- the cells of an index that tell where a machine's name stands: of entry i those of its `machine`, its `clocks`, its `sync_to`, then those of its items
unfoldable pub item_cell : ℕ → ℕ → ℕ
item_cell i k = 6 + (77 * i + (13 + (2 * k + 1)))

unfoldable pub entry_cells : List ℕ → ℕ → List ℕ
entry_cells ix i = (6 + (77 * i + 2)) ∷ (6 + (77 * i + 6)) ∷ (6 + (77 * i + 9)) ∷ listed (item_cell i) 0 (items_in ix i)

-- that of `trace_time`, then those of the entries
unfoldable pub name_cells : List ℕ → List ℕ
name_cells ix = 4 ∷ flat (entry_cells ix) (listed (λ i. i) 0 (entries_in ix))

-- the first of some positions at which the text at p stands; p itself, if it stands at none of them
unfoldable pub first_of : Text → List ℕ → ℕ → ℕ
first_of s [] p = p
first_of s (q ∷ l) p = pick (same (text_at s p) (text_at s q)) q (first_of s l p)

-- positions of different texts, 32 at most, and one more, unless its text stands at one of them
unfoldable pub with_first : Text → List ℕ → ℕ → List ℕ
with_first s l p = pick (any (λ q. same (text_at s p) (text_at s q)) l) l (take 32 (l ++ p ∷ []))

-- the positions at which different names first stand, and the index
pub record Settled : Type 0 where
  pub firsts : List ℕ
  pub index : List ℕ

-- one cell more: the position p that it holds becomes the first at which its text stands. (0 is no position)
unfoldable pub settled_at : Text → ℕ → ℕ → Settled → Settled
settled_at s c p t = pick (eqb p 0) t (record { firsts = with_first s t.firsts p; index = set t.index c (first_of s t.firsts p) })

unfoldable pub cell_settled : Text → ℕ → Settled → Settled
cell_settled s c t = settled_at s c (get_or t.index c 0) t

-- some cells, one after the other
unfoldable pub cells_settled : Text → List ℕ → Settled → Settled
cells_settled s [] t = t
cells_settled s (c ∷ l) t = cells_settled s l (cell_settled s c t)

-- all that tell where a name stands
unfoldable pub settled : Text → List ℕ → Settled
settled s ix = cells_settled s (name_cells ix) (record { firsts = []; index = ix })

unfoldable pub settled_in : Text → List ℕ → List ℕ
settled_in s ix = (settled s ix).index

-- the positions of different names, then zeros: 32 numbers
unfoldable pub firsts_in : Text → List ℕ → List ℕ
firsts_in s ix = (settled s ix).firsts ++ replicate (32 - length (settled s ix).firsts) 0
