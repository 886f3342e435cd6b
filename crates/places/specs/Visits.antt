-- What it is that places hold values, and that one item after the other is visited: the words of the theorems. Assumes nothing.
use Rattle.std.specs.Prelude.{◌≡◌, List, [], ◌∷◌, ℕ}
use Rattle.text.specs.Reading.{Text, done}
use Rattle.text.specs.Strings.{string}
use Rattle.grammar.specs.Tree.{Tree, Members, no_members, one_member}
use Rattle.values.specs.Stands.{Stands}
use Rattle.places.specs.declared.Step.{Step}
use Rattle.places.specs.declared.Step.TheVariants.{Item, End}
use Rattle.places.specs.declared.Entry.{Entry}
use Rattle.places.specs.declared.Entry.TheVariants.{Named, Last}
use Rattle.places.specs.Places.{next_item, next_member}

-- two lists belong together, one by one
pub data Both {A B : Type 0} (R : A → B → Type 0) : List A → List B → Type 0 where
  both_none : Both R [] []
  both_one : {x : A} {y : B} {xs : List A} {ys : List B} → R x y → Both R xs ys → Both R (x ∷ xs) (y ∷ ys)

-- at the places stand the values, one by one
abbrev pub Hold : Text → List ℕ → List Tree → Type 0
Hold s = Both (Stands s)

-- names and places are those of the members, one by one
pub data Belong (s : Text) : List (Text × ℕ) → Members → Type 0 where
  belong_none : Belong s [] no_members
  belong_one : {m : Text × ℕ} {t : Tree} {ps : List (Text × ℕ)} {ms : Members} → Stands s m.1 t → Belong s ps ms → Belong s (m ∷ ps) (one_member m.0 t ms)

-- from an item on, one after the other, the places ps are visited, and then comes the end
pub data Visits (s : Text) : Step → List ℕ → Type 0 where
  visits_end : Visits s End []
  visits_item : {p j : ℕ} {ps : List ℕ} → Visits s (next_item s j) ps → Visits s (Item p j) (p ∷ ps)

-- from a member on, one after the other: i is where the name starts
pub data Passes (s : Text) : Entry → List (Text × ℕ) → Type 0 where
  passes_end : Passes s Last []
  passes_member : {i j n : ℕ} {m : Text × ℕ} {ps : List (Text × ℕ)} → string s i ≡ done m.0 n → Passes s (next_member s j) ps → Passes s (Named i m.1 j) (m ∷ ps)
