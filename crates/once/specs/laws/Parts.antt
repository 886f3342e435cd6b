-- The rules' parts, as functions ask for them: a rule in one entry, the ids from an item on or by the numbers of a table. Assumes nothing.
use Rattle.std.specs.Prelude.{◌≡◌, Bool, true, false, List, [], ◌∷◌, ℕ, zero, suc, ◌≤◌, ◌<◌, ℤ, pos, take, drop}
use Rattle.text.specs.Reading.{Text}
use Rattle.manifest.specs.View.{one}
use Rattle.manifest.specs.Rows.{the, flat, id}
use Rattle.manifest.specs.Rules.{Rule}
use Rattle.index.specs.Index.{items_in, entry_at, manifest_of}
use Rattle.index.proofs.laws.Entries.{from, item_at}

-- rule r applies in entry i
abbrev pub in_entry : Rule → Text → List ℕ → ℕ → Bool
in_entry r s ix i = r.within (manifest_of s ix) i (one (entry_at s ix i))

-- the ids of entry i, from item k on
unfoldable pub ids_from : Text → List ℕ → ℕ → ℕ → List ℤ
ids_from s ix i k = flat (λ v. the (id v)) (from (item_at s ix i) (items_in ix i) k)

-- the id that a number stands for: one more than it is the number, and 0 stands for none
unfoldable pub id_of : ℕ → List ℤ
id_of zero = []
id_of (suc n) = pos n ∷ []

-- the ids that the first n numbers of a table stand for, from place k on
unfoldable pub ids_in : List ℕ → ℕ → ℕ → List ℤ
ids_in table n k = flat id_of (drop k (take n table))

-- what a number tells of an id that is out of range or not, and else stands for those of a list
pub record Numbered (out : Bool) (l : List ℤ) (r : ℕ) : Type 0 where
  pub ranged : r ≤ 4294967296 → (out ≡ false) × (id_of r ≡ l)
  pub past : 4294967296 < r → out ≡ true
