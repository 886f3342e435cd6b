-- 31: "path twice, or file and id twice, in the sheet". Assumes nothing.
use Rattle.std.specs.Prelude.{Bool, true, false, ◌||◌, ◌&&◌, List, [], ◌∷◌, ℕ, eqb}
use Rattle.records.specs.Layout.{Record}
use Rattle.records.specs.declared.Source.{Source}
use Rattle.sheet.specs.Lists.{paths_of, sources_of}

-- one of xs is the same as x
unfoldable pub among : {A : Type 0} → (A → A → Bool) → A → List A → Bool
among same x [] = false
among same x (y ∷ ys) = same x y || among same x ys

-- one of the list is the same as a later one
unfoldable pub repeats : {A : Type 0} → (A → A → Bool) → List A → Bool
repeats same [] = false
repeats same (x ∷ xs) = among same x xs || repeats same xs

-- the same bytes
unfoldable pub same_bytes : List ℕ → List ℕ → Bool
same_bytes [] [] = true
same_bytes [] (y ∷ ys) = false
same_bytes (x ∷ xs) [] = false
same_bytes (x ∷ xs) (y ∷ ys) = eqb x y && same_bytes xs ys

-- the same file and id
abbrev pub same_source : Source → Source → Bool
same_source a b = eqb a.file.0 b.file.0 && eqb a.id b.id

-- 31
unfoldable pub again : List Record → Bool
again rs = repeats same_bytes (paths_of rs) || repeats same_source (sources_of rs)
