-- The members of the object at a position and the items of the array at a position, by their places. Assumes nothing.
use Rattle.std.specs.Prelude.{List, [], ◌∷◌, ℕ, ◌+◌, eqb}
use Rattle.text.specs.Reading.{Text, Out, done, bad, deep, Reader, next, pick, peek}
use Rattle.text.specs.Class.{skip}
use Rattle.grammar.specs.Tree.{Tree, same}
use Rattle.grammar.specs.Document.{value, name, many}
use Rattle.places.specs.declared.Member.{Member}
use Rattle.places.specs.declared.Step.{Step}
use Rattle.places.specs.declared.Step.TheVariants.{Item, End}
use Rattle.places.specs.declared.Entry.{Entry}
use Rattle.places.specs.declared.Entry.TheVariants.{Named, Last}

-- below an object or an array at most 15 levels are left
abbrev pub inner : ℕ
inner = 15

-- the place of an item: where its value starts
unfoldable pub place : ℕ → Tree → ℕ → Out ℕ
place i t j = done i j

unfoldable pub item_place : Reader ℕ
item_place s i = next (value inner s i) (place i)

-- a member's name, and the place of its value
unfoldable pub named_place : Text → ℕ → Tree → ℕ → Out (Text × ℕ)
named_place k i t j = done (k, i) j

unfoldable pub value_place : Text → Text → ℕ → Out (Text × ℕ)
value_place s k j = next (value inner s (skip s j)) (named_place k (skip s j))

unfoldable pub member_place : Reader (Text × ℕ)
member_place s i = next (name s i) (value_place s)

-- what was read, or nothing
unfoldable pub listed : {A : Type 0} → Out (List A) → List A
listed (done xs j) = xs
listed (bad p) = []
listed (deep p) = []

-- the places of the items of the array at p; none where no array stands
unfoldable pub items_at : Text → ℕ → List ℕ
items_at s p = pick (eqb (peek s p) 91) (listed (many item_place 93 s (p + 1))) []

-- the names and places of the members of the object at p; none where no object stands
unfoldable pub members_at : Text → ℕ → List (Text × ℕ)
members_at s p = pick (eqb (peek s p) 123) (listed (many member_place 125 s (p + 1))) []

-- the places of the members with a name
unfoldable pub places_of : Text → List (Text × ℕ) → List ℕ
places_of n [] = []
places_of n (m ∷ ms) = pick (same m.0 n) (m.1 ∷ places_of n ms) (places_of n ms)

-- how many there are, 0, 1 or 2 for more, and the first; 0 where there is none
unfoldable pub counted : List ℕ → Member
counted [] = record { count = 0; at = 0 }
counted (p ∷ []) = record { count = 1; at = p }
counted (p ∷ (q ∷ ps)) = record { count = 2; at = p }

-- the members named n of the object at p
unfoldable pub member_at : Text → ℕ → Text → Member
member_at s p n = counted (places_of n (members_at s p))

-- ---- one after the other

-- a value that was read at v, as an item
unfoldable pub item_of : ℕ → Out Tree → Step
item_of v (done t j) = Item v j
item_of v (bad p) = End
item_of v (deep p) = End

unfoldable pub item_from : Text → ℕ → Step
item_from s v = item_of v (value inner s v)

-- the first item of the array at p
unfoldable pub first_item : Text → ℕ → Step
first_item s p =
    pick (eqb (peek s p) 91)
    (pick (eqb (peek s (skip s (p + 1))) 93) End (item_from s (skip s (p + 1))))
    End

-- the item after the one that ends at j
unfoldable pub next_item : Text → ℕ → Step
next_item s j = pick (eqb (peek s (skip s j)) 44) (item_from s (skip s (skip s j + 1))) End

-- a member whose name starts at i: its value's place and the position past it
unfoldable pub entry_of : ℕ → Out (Text × ℕ) → Entry
entry_of i (done m j) = Named i m.1 j
entry_of i (bad p) = Last
entry_of i (deep p) = Last

unfoldable pub entry_from : Text → ℕ → Entry
entry_from s i = entry_of i (member_place s i)

-- the first member of the object at p
unfoldable pub first_member : Text → ℕ → Entry
first_member s p =
    pick (eqb (peek s p) 123)
    (pick (eqb (peek s (skip s (p + 1))) 125) Last (entry_from s (skip s (p + 1))))
    Last

-- the member after the one that ends at j
unfoldable pub next_member : Text → ℕ → Entry
next_member s j = pick (eqb (peek s (skip s j)) 44) (entry_from s (skip s (skip s j + 1))) Last
