-- What reading a manifest leaves: the tables of its index and of what is looked up in it, and what they say. Assumes nothing.
use Rattle.std.specs.Prelude.{List, ℕ, eqb, replicate}
use Rattle.text.specs.Reading.{Text, pick}
use Rattle.manifest.specs.View.{one}
use Rattle.manifest.specs.Meaning.{Meaning, meant}
use Rattle.manifest.specs.Manifest.{refusal_of}
use Rattle.outline.specs.Outline.{root_at}
use Rattle.index.specs.Index.{manifest_of}
use Rattle.survey.specs.Survey.{index_from}
use Rattle.finds.specs.Finds.{lookups}
use Rattle.listed.specs.Settled.{settled_in}

-- the index of an accepted manifest, with each name told by where it first stands; zeros for a refused one, and for none
unfoldable pub table_of : Text → List ℕ
table_of s = pick (eqb (refusal_of s) 0) (settled_in s (index_from s (root_at s))) (replicate 2470 0)

-- what is looked up in it
unfoldable pub lookups_of : Text → List ℕ
lookups_of s = lookups s (table_of s)

-- what a table says
unfoldable pub meaning_by : Text → List ℕ → Meaning
meaning_by s ix = meant (one (manifest_of s ix))
