-- The predicate in which the theorem on the manifest object's position speaks. Assumes nothing.
use Rattle.std.specs.Prelude.{◌≡◌, ℕ}
use Rattle.text.specs.Reading.{Text}
use Rattle.grammar.specs.Tree.{Tree, obj, Members, no_members, one_member}
use Rattle.values.specs.Stands.{Stands}
use Rattle.manifest.specs.View.{wrong}
use Rattle.manifest.specs.Rules.{root}
use Rattle.outline.specs.declared.Standing.{Standing}
use Rattle.outline.specs.declared.Standing.TheVariants.{At, Refused}

-- `Rooted s t r`: r is the position of the manifest object of the document t; or t is refused as 5
pub data Rooted (s : Text) : Tree → Standing → Type 0 where
  stands_at : {n : Text} {ms : Members} {v : ℕ} → Stands s v (obj ms) → Rooted s (obj (one_member n (obj ms) no_members)) (At v)
  refused : {t : Tree} → root t ≡ wrong → Rooted s t Refused
