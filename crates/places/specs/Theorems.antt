-- What the questions say of the array and of the object that stands at a position. Assumes nothing.
use Rattle.std.specs.Prelude.{◌≡◌, List, ◌∷◌, ℕ, min, length}
use Rattle.std.proofs.Common.{sym, subst}
use Rattle.text.specs.Reading.{Text}
use Rattle.grammar.specs.Tree.{Tree, arr, obj, Trees, Members, list_of_trees, get}
use Rattle.values.specs.Stands.{Stands}
use Rattle.places.specs.Places.{items_at, members_at, places_of, member_at, first_item, first_member}
use Rattle.places.specs.Visits.{Hold, Belong, Visits, Passes}
use Rattle.places.specs.laws.Standing.{array_of, object_of, get_holds, count_holds, first_holds, visits_many, passes_many}

-- at the places of the items of an array stand its items, one by one
pub items_stand : {s : Text} {p : ℕ} {ts : Trees} → Stands s p (arr ts) → Hold s (items_at s p) (list_of_trees ts)
items_stand {s} {p} {ts} h = let a = array_of h in subst (λ (ps : List ℕ). Hold s ps (list_of_trees ts)) (sym a.are) a.hold

-- the names and places of the members of an object are those of its members, one by one
pub members_stand : {s : Text} {p : ℕ} {ms : Members} → Stands s p (obj ms) → Belong s (members_at s p) ms
members_stand {s} {p} {ms} h = let a = object_of h in subst (λ (ps : List (Text × ℕ)). Belong s ps ms) (sym a.are) a.belongs

-- so for each name the places are those of its values, `get n ms`, one by one: a member of an object inside is none of them
pub member_stands : {s : Text} {p : ℕ} {ms : Members} → Stands s p (obj ms) → (n : Text) → Hold s (places_of n (members_at s p)) (get n ms)
member_stands h n = get_holds n (members_stand h)

-- 0, 1, or 2 for more
pub count_stands : {s : Text} {p : ℕ} {ms : Members} → Stands s p (obj ms) → (n : Text) → (member_at s p n).count ≡ min 2 (length (get n ms))
unfolding member_at
count_stands h n = count_holds (member_stands h n)

-- and the first one's value stands at the place that is answered
pub first_stands : {s : Text} {p : ℕ} {ms : Members} → Stands s p (obj ms) → (n : Text) {t : Tree} {ts : List Tree} → get n ms ≡ t ∷ ts → Stands s (member_at s p n).at t
unfolding member_at
first_stands {s} {p} h n e = first_holds (subst (Hold s (places_of n (members_at s p))) e (member_stands h n))

-- the first item, then the next until the end: all items are visited, in order, and nothing else
pub items_visited : {s : Text} {p : ℕ} {ts : Trees} → Stands s p (arr ts) → Visits s (first_item s p) (items_at s p)
items_visited {s} {p} h = let a = array_of h in subst (Visits s (first_item s p)) (sym a.are) (visits_many s p a.opens a.reads)

-- the first member, then the next until the last: all members are passed, in order, each with its name, and nothing else
pub members_passed : {s : Text} {p : ℕ} {ms : Members} → Stands s p (obj ms) → Passes s (first_member s p) (members_at s p)
members_passed {s} {p} h = let a = object_of h in subst (Passes s (first_member s p)) (sym a.are) (passes_many s p a.opens a.reads)
