-- The named machines: where the name of each first stands, and the number of a machine by its name. Assumes nothing.
use Rattle.std.specs.Prelude.{Bool, not, ◌&&◌, List, [], ◌∷◌, ◌++◌, map, ℕ, ◌+◌, ◌-◌, eqb, ltb, length, get_or, take, replicate}
use Rattle.text.specs.Reading.{Text, pick}
use Rattle.grammar.specs.Tree.{same}
use Rattle.numbers.specs.declared.Machine.{Machine}
use Rattle.manifest.specs.Rows.{first_or, flat}
use Rattle.index.specs.Index.{text_at, col_of, item_of, entries_in, items_in, listed}
use Rattle.prints.specs.Prints.{print_at}

-- a position, if it is one: 0 stands for no value
unfoldable pub place : ℕ → List ℕ
place p = pick (eqb p 0) [] (p ∷ [])

-- where the names that entry i declares stand: its `machine`'s name, then those of its items
unfoldable pub declared_at : List ℕ → ℕ → List ℕ
declared_at ix i =
    pick (eqb (col_of ix i 1) 0) [] (place (col_of ix i 2))
    ++ flat (λ k. place (item_of ix i k 1)) (listed (λ k. k) 0 (items_in ix i))

-- "each `name` of `machine` and `machines`, in entry order and then item order"
unfoldable pub declared_in : List ℕ → List ℕ
declared_in ix = flat (declared_at ix) (listed (λ i. i) 0 (entries_in ix))

-- "Equal names are one machine": each text once, where it first stands
unfoldable pub without_at : Text → ℕ → List ℕ → List ℕ
without_at s p [] = []
without_at s p (q ∷ l) = pick (same (text_at s q) (text_at s p)) (without_at s p l) (q ∷ without_at s p l)

unfoldable pub distinct_at : Text → List ℕ → List ℕ
distinct_at s [] = []
distinct_at s (p ∷ l) = p ∷ without_at s p (distinct_at s l)

-- where the names of machines 1, 2, .. stand, all of them
unfoldable pub name_places : Text → List ℕ → List ℕ
name_places s ix = distinct_at s (declared_in ix)

-- the table of the first 32 of them, then zeros. (More than 31 named machines are refused as 37)
unfoldable pub name_table : Text → List ℕ → List ℕ
name_table s ix = take 32 (name_places s ix) ++ replicate (32 - length (take 32 (name_places s ix))) 0

-- the print of the name at a position; 0 where there is no name
unfoldable pub name_print : Text → ℕ → ℕ
name_print s p = pick (eqb p 0) 0 (print_at s p)

-- the prints of the names of the table
unfoldable pub print_table : Text → List ℕ → List ℕ
print_table s ix = map (name_print s) (name_table s ix)

-- ---- what a table tells: 32 positions of names, then a print for each. Both are told of any table; theorems `count_is`, `number_is` say it of the manifest's

-- the first of the 32 places at which the position p stands; 32 if it stands at none
unfoldable pub stands_at : List ℕ → ℕ → ℕ
stands_at table p = first_or 32 (λ q. eqb q p) (take 32 table) 0

-- how many names it holds: up to the first 0
unfoldable pub count_in : List ℕ → ℕ
count_in table = stands_at table 0

-- a name stands at q, and it is the text at p
unfoldable pub is_called : Text → ℕ → ℕ → Bool
is_called s p q = not (eqb q 0) && same (text_at s p) (text_at s q)

-- the name at place k has the print of the text at p, and is that text
unfoldable pub is_named : Text → List ℕ → ℕ → ℕ → Bool
is_named s table p k = eqb (get_or table (32 + k) 0) (print_at s p) && is_called s p (get_or table k 0)

-- the number of the machine whose name is the text at p, by the prints and texts of the table: from 1 on, 0 for a name that it does not hold
unfoldable pub number_by : Text → List ℕ → ℕ → ℕ
number_by s table p = first_or 0 (is_named s table p) (listed (λ k. k) 0 32) 1

-- the number of the machine whose name stands at p: the host's for position 0; by the place of p, if the name stands in the table as it stands here, else by print and text
unfoldable pub number_at : Text → List ℕ → ℕ → Machine
number_at s table p = record { 0 = pick (eqb p 0) 0 (pick (ltb (stands_at table p) 32) (stands_at table p + 1) (number_by s table p)) }
